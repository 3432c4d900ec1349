-- A dictionary block written head first, then its entries, then the key block between them: what each finds there, and the whole. Assumes nothing.
use Prim.Native.Nat.{ℕ, ◌+◌, ◌-◌, ◌≤◌}
use native.Mathlib.Omega.{arith}
use mathlib.Core.List.{List, ◌++◌, append_assoc}
use mathlib.Core.Path.{◌≡◌, sym, ap, ◌∙◌}
use lib.ListN.{length, take, drop, length-append}
use lib.Seq.{sets, sets-eq, length-sets, length-take-le, take-append-le, take-take, take_at, drop_at}
use Rattle.encode.specs.Bytes.{big, in_eight}
use Rattle.encode.specs.declared.Kind.{Kind}
use Rattle.area.proofs.Laws.{sets-append}
use Rattle.plain.specs.Rows.{Row}
use Rattle.plain.specs.Plain.{joined, item_of, plain_of}
use Rattle.dict.specs.Dictionary.{entries_of, key_block_of, dictionary_of}
use Rattle.repaired.specs.Repaired.{Entered}
use Rattle.repaired_laws.proofs.Lengths.{key-block-length, dictionary-length}
use Rattle.used.specs.Used.{plain_rows}
use Rattle.repaired_sizes.specs.declared.Sizes.{Sizes}
use Rattle.repaired_sizes.specs.Sizes.{sizes_of, keys_long, entries_long}
use Rattle.repaired_sizes.proofs.Long.{keys-long, entries-long, sizes-within}

-- ---- a part that was written, and one before it
module _ (es d : List ℕ) (from : ℕ) (fits : from + length es ≤ length d) where
  abbrev there : List ℕ
  there = sets d from es

  whole : there ≡ take from d ++ (es ++ drop (from + length es) d)
  whole = sets-eq es d from fits ∙ append_assoc (take from d) es (drop (from + length es) d)

  short : length (take from d) ≡ from
  short = length-take-le from d (omega arith)

  -- what stands from its place on, and before it
  behind : drop from there ≡ es ++ drop (from + length es) d
  behind = ap (drop from) whole ∙ drop_at (take from d) (es ++ drop (from + length es) d) from short

  ahead : (n : ℕ) → n ≤ from → take n there ≡ take n d
  ahead n h =
      ap (take n) whole
      ∙ take-append-le n (take from d) (es ++ drop (from + length es) d) (omega (arith, short))
      ∙ take-take n from d h

  stands : {end : ℕ} → end ≡ from + length es → take (end - from) (drop from there) ≡ es
  stands {end} e = ap (take (end - from)) behind ∙ take_at es (drop (from + length es) d) (end - from) (omega arith)

  -- a part written before it, up to it
  between : (xs : List ℕ) (at : ℕ) → at + length xs ≡ from → sets there at xs ≡ sets d at (xs ++ es)
  between xs at e =
      sets-eq xs there at (omega (arith, length-sets d from es)) ∙ parts ∙ sym (sets-eq (xs ++ es) d at (omega (arith, ends)))
    where
      ends : at + length (xs ++ es) ≡ from + length es
      ends = omega (arith, length-append xs es)

      parts : take at there ++ xs ++ drop (at + length xs) there ≡ take at d ++ (xs ++ es) ++ drop (at + length (xs ++ es)) d
      parts = rw (e, ahead at (omega arith), behind, ends) (simp append_assoc)

  -- what is read there is what was written
  module _ {d' : List ℕ} (w : d' ≡ sets d from es) {end : ℕ} (e : end ≡ from + length es) where
    found : take (end - from) (drop from d') ≡ es
    found = ap (λ (area : List ℕ). take (end - from) (drop from area)) w ∙ stands e

    pub entered-there : (k : Kind) (kept : ℕ) → Entered k kept es → Entered k kept (take (end - from) (drop from d'))
    entered-there k kept h = rw found h

    pub read-there : (k : Kind) (kept : ℕ) {rows : List Row} → plain_rows k kept es ≡ rows → plain_rows k kept (take (end - from) (drop from d')) ≡ rows
    read-there k kept h = ap (plain_rows k kept) found ∙ h

-- ---- the block of some rows, whose sizes are s
module _ (k : Kind) (rows : List Row) {s : Sizes} (is : s ≡ sizes_of k rows) where
  abbrev es : List ℕ
  es = plain_of k (entries_of rows)

  -- how long the key block and the entries were found to be
  pub found-long : {keys entries : ℕ} → keys ≡ keys_long s → entries ≡ entries_long k s
      → (keys ≡ length (key_block_of rows)) × (entries ≡ length es) × (12 + keys + entries ≡ length (dictionary_of k rows))
  found-long {keys} {entries} p q =
      let a : keys ≡ length (key_block_of rows) = p ∙ ap keys_long is ∙ keys-long k rows in
      let b : entries ≡ length es = q ∙ ap (entries_long k) is ∙ entries-long k rows in
      (a, b, omega (arith, key-block-length rows, dictionary-length k rows))

  pub kept-long : s.entries ≡ length (entries_of rows)
  unfolding sizes_of
  kept-long = ap (λ (z : Sizes). z.entries) is

  pub items-few : {m : ℕ} → length (dictionary_of k rows) ≤ m → length (joined (item_of k) (entries_of rows)) ≤ m
  unfolding sizes_of
  items-few h = omega (arith, (sizes-within k rows).3)

  -- the head's numbers, then the entries, then the key block
  abbrev head : List ℕ
  head = big 8 (length (key_block_of rows)) ++ big 4 (length (entries_of rows))

  module _ (d : List ℕ) {keys : ℕ} (long : keys ≡ length (key_block_of rows)) {x y d₁ d₂ : List ℕ}
      (p : x ≡ big 8 keys) (a : d₁ ≡ sets d 0 (take 8 x)) (q : y ≡ in_eight (big 4 s.entries)) (b : d₂ ≡ sets d₁ 8 (take 4 y)) where
    numbered : d₂ ≡ sets d 0 head
    numbered =
        b
        ∙ ap (λ (item : List ℕ). sets d₁ 8 (take 4 item)) (q ∙ ap (λ (n : ℕ). in_eight (big 4 n)) kept-long)
        ∙ ap (λ (area : List ℕ). sets area 8 (big 4 (length (entries_of rows)))) (a ∙ ap (λ (item : List ℕ). sets d 0 (take 8 item)) (p ∙ ap (big 8) long))
        ∙ sym (sets-append (big 8 (length (key_block_of rows))) (big 4 (length (entries_of rows))) d 0)

    pub block_written : length (dictionary_of k rows) ≤ length d → {d₃ d₄ : List ℕ} → d₃ ≡ sets d₂ (12 + keys) es → d₄ ≡ sets d₃ 12 (key_block_of rows)
        → d₄ ≡ sets d 0 (dictionary_of k rows)
    unfolding dictionary_of
    block_written fits e f =
        let l : length d₂ ≡ length d = ap length numbered ∙ length-sets d 0 head in
        let room : 12 + keys + length es ≤ length d₂ = omega (arith, key-block-length rows, dictionary-length k rows) in
        f
        ∙ ap (λ (area : List ℕ). sets area 12 (key_block_of rows)) e
        ∙ between es d₂ (12 + keys) room (key_block_of rows) 12 (omega arith)
        ∙ ap (λ (area : List ℕ). sets area 12 (key_block_of rows ++ es)) numbered
        ∙ sym (sets-append head (key_block_of rows ++ es) d 0)
        ∙ ap (sets d 0) (sym (append_assoc head (key_block_of rows) es))
