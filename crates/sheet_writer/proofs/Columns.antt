-- The first of the columns that are lent, and those behind it. Assumes nothing.
use Prim.Native.Nat.{ℕ, zero, suc, ◌+◌, ◌-◌, ◌≤◌, ◌<◌}
use native.Mathlib.Nat.{add-zero}
use native.Mathlib.Omega.{arith}
use mathlib.Core.Path.{◌≡◌, refl, sym, ap, ◌∙◌}
use mathlib.Core.List.{List, [], ◌∷◌}
use lib.Dec.{ltb}
use lib.ListN.{length, get_or, take, drop, length-drop}
use lib.Seq.{get_or-drop}
use borrow.Author.Tests.{lt-ltb, le-ltb, ltb-false}
use Rattle.limits.specs.Refusals.{CUT}
use Rattle.plain.specs.Rules.{◌if◌, first_of}
use Rattle.plain.proofs.Rules.{kept, whole}
use Rattle.format.specs.Opening.{open_number}
use Rattle.format.proofs.Answers.{first_one, broken-first, kept-first}
use Rattle.block.specs.declared.Reader.{Reader}
use Rattle.block.specs.declared.Opening.{Opening}
use Rattle.block.specs.Reading.{opened_by, opened, opening_of}
use Rattle.descriptor.specs.declared.Descriptor.{Descriptor}
use Rattle.sheet_writer.specs.Writing.{length_at, first_filed, filed_number, first_number, blocks_number}

-- ---- the numbers at a place
abbrev fields : ℕ → ℕ → ℕ → ℕ → Descriptor
fields kind encoding width rows = record { kind = kind; encoding = encoding; width = width; zero = 0; rows = rows }

module _ (ns : List ℕ) (place : ℕ) where
  pub descriptor-lent : fields (get_or ns place 0) (get_or ns (place + 1) 0) (get_or ns (place + 2) 0) (get_or ns (place + 3) 0) ≡ (first_filed (drop place ns) []).descriptor
  descriptor-lent = rw (get_or-drop place ns 0 0, get_or-drop place ns 1 0, get_or-drop place ns 2 0, get_or-drop place ns 3 0, add-zero)

  pub length-lent : get_or ns (place + 4) 0 ≡ length_at (drop place ns)
  length-lent = sym (get_or-drop place ns 4 0)

-- ---- the number of the first
told-by : (m : ℕ) (r : Reader) → (opening_of (opened_by m r)).number ≡ m
unfolding opening_of opened_by
told-by zero r = refl
told-by (suc m) r = refl

pub opening-number : (kind encoding width n : ℕ) (b : List ℕ) {o : Opening} → o ≡ opening_of (opened kind encoding width n b) → o.number ≡ open_number kind encoding width n b
unfolding opened
opening-number kind encoding width n b e = ap (λ (x : Opening). x.number) e ∙ told-by (open_number kind encoding width n b) _

module _ (ns bs : List ℕ) where
  pub block-cut : length bs < length_at ns → CUT ≡ first_number ns bs
  unfolding first_number first_of
  block-cut h = rw (lt-ltb (length bs) (length_at ns) h)

  pub block-opened : length_at ns ≤ length bs → filed_number (first_filed ns bs) ≡ first_number ns bs
  unfolding first_number
  block-opened h = sym (kept-first (filed_number (first_filed ns bs) ∷ []) (rw (le-ltb (length bs) (length_at ns) h)) ∙ first_one (filed_number (first_filed ns bs)))

  pub first-held : first_number ns bs ≡ 0 → length_at ns ≤ length bs
  unfolding first_number
  first-held z = ltb-false _ _ (whole CUT _ (omega arith) (kept (CUT if ltb (length bs) (length_at ns)) _ z).0)

  pub first-sound : first_number ns bs ≡ 0 → filed_number (first_filed ns bs) ≡ 0
  first-sound z = block-opened (first-held z) ∙ z

  -- ---- and of those behind it
  module _ (n : ℕ) where
    pub next-sound : blocks_number (suc n) ns bs ≡ 0 → (first_number ns bs ≡ 0) × (blocks_number n (drop 5 ns) (drop (length_at ns) bs) ≡ 0)
    unfolding blocks_number
    next-sound z =
        let a = kept (first_number ns bs) _ z in
        (a.0, (kept (blocks_number n (drop 5 ns) (drop (length_at ns) bs)) [] a.1).0)

    pub next-number : first_number ns bs ≡ 0 → blocks_number (suc n) ns bs ≡ blocks_number n (drop 5 ns) (drop (length_at ns) bs)
    unfolding blocks_number
    next-number z = kept-first (blocks_number n (drop 5 ns) (drop (length_at ns) bs) ∷ []) z ∙ first_one (blocks_number n (drop 5 ns) (drop (length_at ns) bs))

    pub first-bad : {e : ℕ} → e ≡ first_number ns bs → 0 < e → blocks_number (suc n) ns bs ≡ e
    unfolding blocks_number
    first-bad {e} q h = rw (← q) (broken-first e (blocks_number n (drop 5 ns) (drop (length_at ns) bs) ∷ []) (λ z. omega arith))

-- ---- a column whose numbers and block lie at places
module _ (ns bs : List ℕ) (place at : ℕ) {len : ℕ} (read : len ≡ get_or ns (place + 4) 0) where
  pub cut-there : length bs - at < len → CUT ≡ first_number (drop place ns) (drop at bs)
  cut-there h = block-cut (drop place ns) (drop at bs) (omega (arith, h, read, length-drop at bs, length-lent ns place))

  pub opened-there :
      {d : Descriptor} {o : Opening} → len ≤ length bs - at → d ≡ (first_filed (drop place ns) []).descriptor
      → o ≡ opening_of (opened d.kind d.encoding d.width d.rows (take (at + len - at) (drop at bs)))
      → o.number ≡ first_number (drop place ns) (drop at bs)
  opened-there {d} {o} h p q =
      let e : at + len - at ≡ length_at (drop place ns) = omega (arith, read, length-lent ns place) in
      let same : open_number d.kind d.encoding d.width d.rows (take (at + len - at) (drop at bs)) ≡ filed_number (first_filed (drop place ns) (drop at bs))
      = rw (e, p) in
      opening-number d.kind d.encoding d.width d.rows (take (at + len - at) (drop at bs)) q
      ∙ same
      ∙ block-opened (drop place ns) (drop at bs) (omega (arith, h, read, length-drop at bs, length-lent ns place))
