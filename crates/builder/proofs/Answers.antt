-- The answers of creation, append, estimate and should_finish, on each way through the code. Assumes nothing.
use Rattle.step.specs.Counting.{Next}
use Prim.Native.Nat.{ℕ}
use mathlib.Core.Path.{◌≡◌, refl, sym, ap, subst, ◌∙◌}
use mathlib.Core.Bool.{Bool, true, false}
use mathlib.Core.List.{List}
use lib.IntN.{ℤ}
use mir.Syntax.{w64}
use mir.Val.{of_z, to_z, SFits}
use mir.Facts.{to_z-of_z}
use Rattle.limits.specs.Refusals.{COLUMN, DISAGREE}
use Rattle.encode.specs.declared.Kind.{Kind}
use Rattle.plain.specs.Rows.{row_of}
use Rattle.format.specs.declared.Encoding.{Encoding}
use Rattle.format.specs.declared.Column.{Column}
use Rattle.format.specs.Blocks.{column_of, column}
use Rattle.needs.specs.Needs.{record_wrong}
use Rattle.sizes.specs.Sizes.{size_by, full_by}
use Rattle.append.specs.Appending.{Lent, lent, Added, added_to}
use Rattle.copies.specs.Copies.{added_times}
use Rattle.copies_laws.proofs.Answers.{once, copies-refused-keep}
use Rattle.builder.specs.declared.Builder.{Builder}
use Rattle.std.specs.Prelude.{Ok, Err, Option, Some, None}
use Rattle.builder.specs.declared.Appended.{Appended}
use Rattle.builder.specs.Building.{empty, created_in, created, counting, Append, append_with, appended_in, appended, appended_times_in, appended_times}
use Rattle.builder.specs.Finishing.{estimated_as, estimated_in, estimated, asked_as, asked_in, asked}

-- ---- creation
module _ (kind encoding width target key : ℕ) {c : Option Column} (p : c ≡ column_of kind encoding width) where
  pub refused : c ≡ None → Err COLUMN ≡ created kind encoding width target key
  unfolding created created_in
  refused q = rw (← p, q)

  pub new : {k : Kind} {e : Encoding} → c ≡ Some (column k e) → {r : Builder} → r ≡ empty kind encoding width target key → Ok r ≡ created kind encoding width target key
  unfolding created created_in
  new q h = rw (h, ← p, q)

once-in : (c : Option Column) (r : Builder) (a : Lent) (present : Bool) (v : ℤ) (bs : List ℕ) → appended_times_in c r a 1 present v bs ≡ appended_in c r a present v bs
unfolding appended_times_in appended_in
once-in None r a present v bs = refl
once-in (Some c) r a present v bs = ap (append_with r) (once c.kind c.encoding r.counted a (row_of c.kind present v bs))

-- ---- append: what is said of the answer and of the areas, from the whole
abbrev pub Says : Append → Appended → Lent → Type 0
Says x n a =
    (n ≡ x.answer)
    × ((a.items ≡ x.areas.items)
    × ((a.ends ≡ x.areas.ends)
    × ((a.flags ≡ x.areas.flags) × ((a.counts ≡ x.areas.counts) × ((a.keys ≡ x.areas.keys) × (a.lens ≡ x.areas.lens))))))

says : (x : Append) {n : Appended} {a : Lent} → record { answer = n; areas = a } ≡ x → Says x n a
says x q = rw (← q) (refl, (refl, (refl, (refl, (refl, (refl, refl))))))

module _ (r : Builder) (a : Lent) (m : ℕ) (present : Bool) (v : ℤ) (bs : List ℕ) {c : Option Column} (q : c ≡ column_of r.kind r.encoding r.width) where
  pub append-unknown : c ≡ None → Says (appended_times r a m present v bs) (record { number = DISAGREE; builder = r }) a
  unfolding appended_times appended_times_in
  append-unknown t = says (appended_times r a m present v bs) (rw (← q, t))

  -- the integer has been passed on
  pub append-known :
      {k : Kind} {e : Encoding} → c ≡ Some (column k e) → SFits w64 v → {n : Next} {b : Lent}
      → added_to n b ≡ added_times k e r.counted a m (row_of k present (to_z w64 (of_z w64 v)) bs)
      → {s : Builder} → s ≡ counting r n.counted → Says (appended_times r a m present v bs) (record { number = n.number; builder = s }) b
  unfolding appended_times appended_times_in
  append-known {k} {e} t f {n} {b} h w =
      let g : added_to n b ≡ added_times k e r.counted a m (row_of k present v bs) =
      h ∙ ap (λ (z : ℤ). added_times k e r.counted a m (row_of k present z bs)) (to_z-of_z f) in
      says (appended_times r a m present v bs) (rw (w, ← q, t) (ap (append_with r) g))

  -- it is refused, or done
  module _ {k : Kind} {e : Encoding} (t : c ≡ Some (column k e)) (f : SFits w64 v) {n : Next} {b : Lent}
      (h : added_to n b ≡ added_times k e r.counted a m (row_of k present (to_z w64 (of_z w64 v)) bs)) where
    pub append-refused : (n.number ≡ 0 → ⊥) → Says (appended_times r a m present v bs) (record { number = n.number; builder = r }) b
    append-refused d =
        let g = copies-refused-keep k e r.counted a m (row_of k present (to_z w64 (of_z w64 v)) bs) (λ z. d (ap (λ (y : Added). y.answer.number) h ∙ z)) in
        append-known t f h (sym (ap (counting r) (ap (λ (y : Added). y.answer.counted) h ∙ g.0)))

    pub append-done :
        n.number ≡ 0 → {s : Builder} → s ≡ counting r n.counted → Says (appended_times r a m present v bs) (record { number = 0; builder = s }) b
    append-done d w = rw (← d) (append-known t f h w)

-- once is an append
pub append-once : (r : Builder) (a : Lent) (present : Bool) (v : ℤ) (bs : List ℕ) → appended_times r a 1 present v bs ≡ appended r a present v bs
unfolding appended_times appended
append-once r a present v bs = once-in (column_of r.kind r.encoding r.width) r a present v bs

pub said-once : (r : Builder) (a : Lent) (present : Bool) (v : ℤ) (bs : List ℕ) → SFits w64 v → {x : Appended} {is es fs cs ls : List ℕ} {ks : List ℤ}
    → Says (appended_times r a 1 present (to_z w64 (of_z w64 v)) bs) x (lent is es fs cs ks ls) → Says (appended r a present v bs) x (lent is es fs cs ks ls)
said-once r a present v bs f {x} {is} {es} {fs} {cs} {ls} {ks} h =
    subst (λ (y : Append). Says y x (lent is es fs cs ks ls)) (ap (λ (z : ℤ). appended_times r a 1 present z bs) (to_z-of_z f) ∙ append-once r a present v bs) h

-- ---- estimate and should_finish
module _ (r : Builder) {c : Option Column} (p : c ≡ column_of r.kind r.encoding r.width) where
  pub estimate-unknown : c ≡ None → estimated_as DISAGREE 0 r ≡ estimated r
  unfolding estimated estimated_in
  estimate-unknown q = rw (← p, q)

  pub asked-unknown : (present : Bool) (len : ℕ) → c ≡ None → asked_as DISAGREE false r ≡ asked r present len
  unfolding asked asked_in
  asked-unknown present len q = rw (← p, q)

  module _ {k : Kind} {e : Encoding} (q : c ≡ Some (column k e)) {x : Bool} (o : x ≡ record_wrong k e r.counted) where
    pub estimate-wrong : x ≡ true → estimated_as DISAGREE 0 r ≡ estimated r
    unfolding estimated estimated_in
    estimate-wrong t = rw (← p, q, ← o, t)

    pub estimate-right : x ≡ false → {n : ℕ} → n ≡ size_by k e r.counted → estimated_as 0 n r ≡ estimated r
    unfolding estimated estimated_in
    estimate-right t h = rw (← p, q, ← o, t, h)

    pub asked-wrong : (present : Bool) (len : ℕ) → x ≡ true → asked_as DISAGREE false r ≡ asked r present len
    unfolding asked asked_in
    asked-wrong present len t = rw (← p, q, ← o, t)

    pub asked-right :
        (present : Bool) (len : ℕ) → x ≡ false → {t : Bool} → t ≡ full_by k e r.counted r.target r.keytarget present len → asked_as 0 t r ≡ asked r present len
    unfolding asked asked_in
    asked-right present len u h = rw (← p, q, ← o, u, h)
