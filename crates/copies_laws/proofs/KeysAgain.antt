-- Encoding 4: with a row counted in and written, the lookup finds the entry that it found, or the entry that the row became, and the last key is the
-- row's. So the next append of it stores nothing, and it joins its run while that is open. For any numbers and all memory. Assumes nothing.
use Prim.Native.Nat.{ℕ, zero, suc, ◌+◌, ◌-◌, ◌≤◌, ◌<◌}
use native.Mathlib.Numerals.{add-one}
use native.Mathlib.Omega.{arith}
use mathlib.Core.Bool.{Bool, true, false, cond, not, and-true}
use mathlib.Core.List.{List}
use mathlib.Core.Logic.{⊎_elim}
use mathlib.Core.Path.{◌≡◌, refl, sym, ap, subst, ◌∙◌}
use lib.Dec.{eqb}
use lib.IntN.{ℤ, pos}
use lib.ListN.{length, get_or, set}
use lib.Seq.{get_or-set_same}
use borrow.Author.Tests.{eqb-true, ne_eqb}
use Rattle.area.proofs.Laws.{lt-or-ge}
use Rattle.encode.specs.declared.Kind.{Kind}
use Rattle.encode.proofs.Bools.{both}
use Rattle.plain.specs.Rows.{Row, null, int, bytes, same_int, same}
use Rattle.plain.specs.Plain.{item_of, places}
use Rattle.plain.proofs.Same.{same_self}
use Rattle.nullable.specs.Nullable.{presence}
use Rattle.dict.specs.Dictionary.{null_key, entry_key}
use Rattle.std.specs.Prelude.{Option, Some, None}
use Rattle.lookup.specs.Held.{Held, held, held_row, field_wrong, look_from, look_up}
use Rattle.lookup.proofs.Alike.{int_same}
use Rattle.needs.specs.declared.Counted.{Counted}
use Rattle.needs.specs.Needs.{bytes_wrong}
use Rattle.step.proofs.Steps.{adds_same}
use Rattle.step.specs.Steps.{adds, run_open, joins_key, entry_step, key_step}
use Rattle.append.specs.Asking.{Stores}
use Rattle.copies_laws.proofs.ReadBack.{written, held_next, Behind, behind, new-field, new_row, old-field, old_row}

-- ---- a row that is none of the entries
module _ (k : Kind) (n len : ℕ) (h : Held) (row : Row) where
  -- entry i is not wrong, and another row
  abbrev pub Other : ℕ → Type 0
  Other i = (field_wrong k n len h i ≡ false) × (same row (held_row k h i) ≡ false)

  one-other : (i : ℕ) (rest : Option ℕ) → i < n → cond (field_wrong k n len h i) None (cond (same row (held_row k h i)) (Some i) rest) ≡ Some n
      → Other i × (rest ≡ Some n)
  one-other i rest l q = go (field_wrong k n len h i) (same row (held_row k h i)) refl refl q
    where
      go : (x y : Bool) → field_wrong k n len h i ≡ x → same row (held_row k h i) ≡ y → cond x None (cond y (Some i) rest) ≡ Some n → Other i × (rest ≡ Some n)
      go true y c d p = let z : ◌≡◌ {A = ℕ} 0 1 = cc in absurd (omega arith)
      go false true c d p = let z : i ≡ n = cc in absurd (omega arith)
      go false false c d p = ((c, d), p)

  from-others : (m i : ℕ) → i + m ≡ n → look_from k n len h row (places m i) ≡ Some n → (j : ℕ) → i ≤ j → j < n → Other j
  unfolding look_from places
  from-others zero i e q j a b = absurd (omega arith)
  from-others (suc m) i e q j a b =
      let o = one-other i (look_from k n len h row (places m (suc i))) (omega arith) q in
      ⊎_elim (λ (l : i < j). from-others m (suc i) (omega arith) o.1 j l b)
      (λ (l : j ≤ i). let z : i ≡ j = omega arith in subst (λ (x : ℕ). Other x) z o.0)
      (lt-or-ge i j)

  pub all_others : look_up k n len h row ≡ Some n → (i : ℕ) → i < n → Other i
  unfolding look_up
  all_others q i l = from-others n 0 (omega arith) q i (omega arith) l

  -- ---- written as the next entry it is found there
  module _ (g : Behind k n len row h) (p : presence row ≡ 1) (others : (i : ℕ) → i < n → Other i) where
    abbrev after : Held
    after = written k n len row h

    abbrev end : ℕ
    end = len + length (item_of k row)

    from-again : (m i : ℕ) → i + m ≡ n → look_from k (n + 1) end after row (places (suc m) i) ≡ Some n
    unfolding look_from places
    from-again zero i e =
        let z : i ≡ n = omega arith in
        rw (z, new-field k n len row h g, new_row k n len row h g p, same_self row)
    from-again (suc m) i e =
        let l : i < n = omega arith in
        let o = others i l in
        rw (old-field n len row h i l k o.0, old_row n len row h i l k g o.0, o.1) (from-again m (suc i) (omega arith))

    pub entry-again : look_up k (n + 1) end after row ≡ Some n
    unfolding look_up
    entry-again = ap (λ (m : ℕ). look_from k (n + 1) end after row (places m 0)) (add-one n) ∙ from-again n 0 (omega arith)

-- ---- the key of the last run
module _ (r s : Counted) (keys : List ℤ) (key : ℤ) where
  key-joined : joins_key r keys key ≡ true → s.runs ≡ r.runs → joins_key s keys key ≡ run_open s
  unfolding joins_key
  key-joined j n = rw (n, (both (run_open r) (same_int key (get_or keys (r.runs - 1) (pos 0))) j).1, and-true)

  key-begun : r.runs < length keys → s.runs ≡ r.runs + 1 → joins_key s (set keys r.runs key) key ≡ run_open s
  unfolding joins_key
  key-begun l n =
      let i : s.runs - 1 ≡ r.runs = omega arith in
      rw (i, get_or-set_same keys r.runs key (pos 0) l, int_same {u = key} refl, and-true)

  key-again : (joins : Bool) → joins ≡ joins_key r keys key → (joins ≡ false → r.runs < length keys) → s.runs ≡ cond (not joins) (r.runs + 1) r.runs
      → joins_key s (cond (not joins) (set keys r.runs key) keys) key ≡ run_open s
  key-again true j l n = key-joined (sym j) n
  key-again false j l n = key-begun (l refl) n

-- ---- what is found
module _ (k : Kind) (row : Row) where
  value-step : (r : Counted) (h : Held) (keys : List ℤ) → presence row ≡ 1 → key_step k r h keys row ≡ entry_step r keys (look_up k r.entries r.bytes h row)
  unfolding key_step presence
  value-step r h keys = go row
    where
      go : (x : Row) → presence x ≡ 1 → key_step k r h keys x ≡ entry_step r keys (look_up k r.entries r.bytes h x)
      go null p = absurd (omega arith)
      go (int v) p = refl
      go (bytes bs) p = refl

  record EntryFound (r : Counted) (h : Held) (keys : List ℤ) (item joins : Bool) (key : ℤ) : Type 0 where
    place : ℕ
    looked : look_up k r.entries r.bytes h row ≡ Some place
    stored : item ≡ eqb place r.entries
    joined : joins ≡ joins_key r keys key
    named : key ≡ entry_key place

  entry_found : (r : Counted) (h : Held) (keys : List ℤ) (item joins : Bool) (key : ℤ) (l : Option ℕ) → look_up k r.entries r.bytes h row ≡ l
      → adds item joins key ≡ entry_step r keys l → EntryFound r h keys item joins key
  unfolding entry_step
  entry_found r h keys item joins key None p q = let z : ◌≡◌ {A = ℕ} 0 1 = cc in absurd (omega arith)
  entry_found r h keys item joins key (Some i) p q =
      let e = adds_same q in
      record { place = i; looked = p; stored = e.0; joined = e.1 ∙ ap (joins_key r keys) (sym e.2); named = e.2 }

  -- ---- and found again, where the lookup finds an entry that is there
  entry-step-again : (s : Counted) (h : Held) (keys : List ℤ) (i : ℕ) → presence row ≡ 1 → look_up k s.entries s.bytes h row ≡ Some i
      → eqb i s.entries ≡ false → joins_key s keys (entry_key i) ≡ run_open s → key_step k s h keys row ≡ adds false (run_open s) (entry_key i)
  unfolding entry_step
  entry-step-again s h keys i p l b j = value-step s h keys p ∙ rw (l, b, j)

  module _ (r s : Counted) (is es ls : List ℕ) (keys : List ℤ) {f : Bool} {fs : List ℕ} (need : bytes_wrong k r.entries r.bytes ≡ false) where
    looked-again : (item : Bool) (i : ℕ) → presence row ≡ 1 → look_up k r.entries r.bytes (held is es ls) row ≡ Some i → item ≡ eqb i r.entries
        → (item ≡ true → Stores k f r.entries r.bytes row (length (item_of k row)) is es fs ls)
        → s.entries ≡ cond item (r.entries + 1) r.entries → s.bytes ≡ cond item (r.bytes + length (item_of k row)) r.bytes
        → (look_up k s.entries s.bytes (held_next item k r.entries r.bytes row (held is es ls)) row ≡ Some i) × (eqb i s.entries ≡ false)
    looked-again true i p l t w n b =
        let z : i ≡ r.entries = eqb-true i r.entries (sym t) in
        let o = all_others k r.entries r.bytes (held is es ls) row (l ∙ ap Some z) in
        let g = behind k r.entries r.bytes row (w refl) need (λ j q. (o j (omega arith)).0) in
        (rw (n, b, z) (entry-again k r.entries r.bytes (held is es ls) row g p o), ne_eqb i s.entries (λ (q : i ≡ s.entries). omega (arith, q)))
    looked-again false i p l t w n b = rw (n, b) (l, sym t)

    module _ (item joins : Bool) (key : ℤ)
        (slots : item ≡ true → Stores k f r.entries r.bytes row (length (item_of k row)) is es fs ls) (room : joins ≡ false → r.runs < length keys)
        (runs : s.runs ≡ cond (not joins) (r.runs + 1) r.runs) (entries : s.entries ≡ cond item (r.entries + 1) r.entries)
        (len : s.bytes ≡ cond item (r.bytes + length (item_of k row)) r.bytes) where
      abbrev held_after : Held
      held_after = held_next item k r.entries r.bytes row (held is es ls)

      abbrev keys_after : List ℤ
      keys_after = cond (not joins) (set keys r.runs key) keys

      entry-row-again : presence row ≡ 1 → EntryFound r (held is es ls) keys item joins key → key_step k s held_after keys_after row ≡ adds false (run_open s) key
      entry-row-again p g =
          let l = looked-again item g.place p g.looked g.stored slots entries len in
          let j : joins_key s keys_after (entry_key g.place) ≡ run_open s =
          ap (joins_key s keys_after) (sym g.named) ∙ key-again r s keys key joins g.joined room runs in
          entry-step-again s held_after keys_after g.place p l.0 l.1 j ∙ ap (adds false (run_open s)) (sym g.named)

      null-row-again : row ≡ null → adds item joins key ≡ adds false (joins_key r keys null_key) null_key → key_step k s held_after keys_after row ≡ adds false (run_open s) key
      unfolding key_step
      null-row-again n q =
          let e = adds_same q in
          let z = e.2 in
          let a : joins_key s keys_after key ≡ run_open s = key-again r s keys key joins (e.1 ∙ ap (joins_key r keys) (sym z)) room runs in
          rw n (ap (λ (x : ℤ). adds false (joins_key s keys_after x) x) (sym z) ∙ ap (λ (b : Bool). adds false b key) a)

      pub keys-again : adds item joins key ≡ key_step k r (held is es ls) keys row → key_step k s held_after keys_after row ≡ adds false (run_open s) key
      unfolding key_step presence
      keys-again q = go row refl
        where
          given : presence row ≡ 1 → key_step k s held_after keys_after row ≡ adds false (run_open s) key
          given p = entry-row-again p (entry_found r (held is es ls) keys item joins key _ refl (q ∙ value-step r (held is es ls) keys p))

          go : (x : Row) → row ≡ x → key_step k s held_after keys_after row ≡ adds false (run_open s) key
          go null e = null-row-again e (q ∙ ap (key_step k r (held is es ls) keys) e)
          go (int v) e = given (ap presence e)
          go (bytes bs) e = given (ap presence e)
