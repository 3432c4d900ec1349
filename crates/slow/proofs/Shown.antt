-- Each outcome of `row`: what opening's number, the column and the row's place say is shown. Assumes nothing.
use Prim.Native.Nat.{ℕ, zero, suc, ◌-◌, ◌≤◌, ◌<◌}
use native.Mathlib.Omega.{arith}
use mathlib.Core.Bool.{Bool, true, false, cond}
use mathlib.Core.List.{List, [], ◌∷◌}
use mathlib.Core.Path.{◌≡◌, refl, sym, ap, subst, ◌∙◌}
use borrow.Author.Tests.{ltb-false, le-leb, lt-leb}
use lib.Dec.{ltb, eqb}
use lib.ListN.{length, drop, get_or, length-drop}
use lib.Seq.{length-take-le}
use Rattle.std.specs.Prelude.{Result, Err, Option, Some, None}
use Rattle.limits.specs.Limits.{MOST_BYTES}
use Rattle.limits.specs.Refusals.{COLUMN, LIMIT, TOO_FAR, refusal_number}
use Rattle.limits.specs.declared.refusal.Refusal.{Refusal}
use Rattle.encode.specs.declared.Kind.{Kind}
use Rattle.plain.specs.Rows.{Row, null}
use Rattle.plain.specs.Rules.{◌if◌}
use Rattle.plain.proofs.Rules.{kept, whole}
use Rattle.dict.specs.Dictionary.{entry_row}
use Rattle.format.specs.declared.Encoding.{Encoding}
use Rattle.format.specs.declared.Column.{Column}
use Rattle.format.specs.Blocks.{column_of, column}
use Rattle.format.specs.Opening.{most_rows, rules_of, column_number, open_number, rows_of}
use Rattle.fill.specs.Areas.{Areas}
use Rattle.descriptor.specs.declared.Descriptor.{Descriptor}
use Rattle.descriptor.specs.Descriptor.{described_number}
use Rattle.slow_answer.specs.Slow.{Shown, answer_of, refused_row, shown_in, shown_of, shown_by, row_shown}
use Rattle.slow_plain.specs.Items.{slot_of}
use Rattle.limits.proofs.Refused.{refusal-some}
use Rattle.slow_giving.specs.Giving.{Gives}
use Rattle.slow_places.specs.declared.Place.{Place}
use Rattle.slow_places.specs.Places.{Opened, Shows, items_at}

-- what comes to the same is given alike
pub gives_as : (x : Result ℕ Refusal) {after : Areas} {due given : Shown} → due ≡ given → Gives x after given → Gives x after due
gives_as x {after} e g = subst (λ (s : Shown). Gives x after s) (sym e) g

pub refused_as : {a : Areas} {due : Shown} (x : Result ℕ Refusal) (e : Refusal) → due ≡ refused_row (refusal_number e) a → x ≡ Err e → Gives x a due
refused_as x e q h = gives_as x q (ap answer_of h, refl)

shown-refused : (e : ℕ) (c : Option Column) (n : ℕ) (b : List ℕ) (r : ℕ) (a : Areas) → (e ≡ 0 → ⊥) → shown_by e c n b r a ≡ refused_row e a
unfolding shown_by
shown-refused zero c n b r a h = absurd (h refl)
shown-refused (suc e) c n b r a h = refl

module _ (d : Descriptor) (b : List ℕ) where
  abbrev named : Option Column
  named = column_of d.kind d.encoding d.width

  -- ---- a block that isn't opened
  module _ (r : ℕ) (a : Areas) where
    pub not_opened : (e : Refusal) → refusal_number e ≡ described_number d b → row_shown d b r a ≡ refused_row (refusal_number e) a
    not_opened e q =
        ap (λ (m : ℕ). shown_by m named d.rows b r a) (sym q) ∙ shown-refused (refusal_number e) named d.rows b r a (refusal-some e)

  module _ (z : 0 ≡ described_number d b) where
    -- ---- a block that is opened: the column's row is shown
    module _ (r : ℕ) (a : Areas) where
      shown_of_lem : (c : Option Column) → named ≡ c → row_shown d b r a ≡ shown_of c d.rows b r a
      unfolding shown_by
      shown_of_lem c e = ap (λ (m : ℕ). shown_by m named d.rows b r a) (sym z) ∙ ap (λ (j : Option Column). shown_of j d.rows b r a) e

      pub unknown-shown : named ≡ None → row_shown d b r a ≡ refused_row COLUMN a
      unfolding shown_of
      unknown-shown e = shown_of_lem None e

      module _ {k : Kind} {e : Encoding} (c : named ≡ Some (column k e)) where
        pub far-shown : d.rows ≤ r → row_shown d b r a ≡ refused_row TOO_FAR a
        unfolding shown_of
        far-shown h = shown_of_lem (Some (column k e)) c ∙ simp (le-leb d.rows r h)

        near-shown : r < d.rows → row_shown d b r a ≡ shown_in k (get_or (rows_of k e d.rows b) r null) a
        unfolding shown_of
        near-shown h = shown_of_lem (Some (column k e)) c ∙ simp (lt-leb d.rows r h)

        pub place-shown :
            {p : Place} → Shows k e d.rows b r p → r < d.rows → row_shown d b r a ≡ shown_in k (entry_row k p.items (items_at p b) (slot_of p.item)) a
        place-shown s h = near-shown h ∙ ap (λ (row : Row). shown_in k row a) s.shown

    -- ---- what opening's 0 says of the block
    module _ {k : Kind} {e : Encoding} (c : named ≡ Some (column k e)) where
      column-sound : column_number (Some (column k e)) d.rows b ≡ 0
      unfolding described_number open_number
      column-sound = go (eqb d.zero 0) (sym z)
        where
          go : (t : Bool) → cond t (column_number named d.rows b) COLUMN ≡ 0 → column_number (Some (column k e)) d.rows b ≡ 0
          go true h = ap (λ (j : Option Column). column_number j d.rows b) (sym c) ∙ h
          go false h = absurd (omega arith)

      pub rules-kept : (length b ≤ MOST_BYTES) × (d.rows ≤ most_rows e) × (rules_of k e d.rows b ≡ 0)
      unfolding column_number
      rules-kept =
          let wide = ltb MOST_BYTES (length b) in
          let many = ltb (most_rows e) d.rows in
          let rules = rules_of k e d.rows b in
          let p = kept (LIMIT if wide) (LIMIT if many ∷ rules ∷ []) column-sound in
          let q = kept (LIMIT if many) (rules ∷ []) p.1 in (
            ltb-false MOST_BYTES (length b) (whole LIMIT wide (omega arith) p.0),
            ltb-false (most_rows e) d.rows (whole LIMIT many (omega arith) q.0),
            (kept rules [] q.1).0,
          )

      pub opened : Opened e d.rows b
      opened = record { kind = k; sound = rules-kept.2; short = rules-kept.0; few = rules-kept.1 }

      -- the place that the code found, whatever the kind is
      pub found : {r : ℕ} {p : Place} → ((j : Kind) → rules_of j e d.rows b ≡ 0 → Shows j e d.rows b r p) → Shows k e d.rows b r p
      found h = h k rules-kept.2

-- the plain block of a place is no longer than the block
pub part-short :
    {k : Kind} {e : Encoding} {n : ℕ} {b : List ℕ} {r : ℕ} {p : Place} → Shows k e n b r p → length b ≤ MOST_BYTES → length (items_at p b) ≤ MOST_BYTES
part-short {b = b} {p = p} s h =
    let o = s.ordered in
    let i = s.inside in
    let l : length (items_at p b) ≡ p.to - p.from = length-take-le (p.to - p.from) (drop p.from b) (simp length-drop (omega arith)) in
    omega arith
