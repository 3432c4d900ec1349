-- One row appended n times, on the ways through the code: the row is passed on as the bits of its integer, and so shows as another, which is the same; the
-- encoding shows as what a function gives. Assumes nothing.
use Prim.Native.Nat.{ℕ}
use mathlib.Core.Path.{◌≡◌, sym, ap}
use mathlib.Core.Bool.{Bool}
use mathlib.Core.List.{List}
use lib.IntN.{ℤ}
use lib.ListN.{length}
use mir.Syntax.{w64}
use mir.Val.{of_z, to_z, SFits}
use mir.Facts.{to_z-of_z}
use Rattle.encode.specs.declared.Kind.{Kind}
use Rattle.plain.specs.Rows.{Row, row_of}
use Rattle.plain.specs.Plain.{item_of}
use Rattle.format.specs.declared.Encoding.{Encoding}
use Rattle.needs.specs.declared.Counted.{Counted}
use Rattle.append.specs.Appending.{Lent, Added, added}
use Rattle.append.specs.Asking.{Found}
use Rattle.copies.specs.Copies.{added_times}

pub found_passed :
    {k : Kind} {e e' : Encoding} → e' ≡ e → {r : Counted} {a : Lent} {row passed : Row} → passed ≡ row → {item joins : Bool} {key key' : ℤ} → key' ≡ key
    → Found k e r a row item joins key → Found k e' r a passed item joins key'
found_passed p q z f = rw (p, q, z) f

pub long-passed : (k : Kind) {row passed : Row} → passed ≡ row → {len : ℕ} → len ≡ length (item_of k row) → len ≡ length (item_of k passed)
long-passed k q l = rw q l

pub added-passed : (k : Kind) (e : Encoding) (r : Counted) (a : Lent) {row passed : Row} → passed ≡ row → {x : Added} → x ≡ added k e r a passed → x ≡ added k e r a row
added-passed k e r a q h = rw q at h

pub times-passed :
    (k : Kind) {e e' : Encoding} → e' ≡ e → (r : Counted) (a : Lent) (n : ℕ) {row passed : Row} → passed ≡ row
    → {x : Added} → x ≡ added_times k e' r a n passed → x ≡ added_times k e r a n row
times-passed k p r a n q h = rw (p, q) at h

-- the encoding that an arm names
pub arm :
    (k : Kind) {e g : Encoding} (r : Counted) (a : Lent) (n : ℕ) (present : Bool) (v : ℤ) (bs : List ℕ) → SFits w64 v → e ≡ g → {x : Added}
    → x ≡ added_times k g r a n (row_of k present (to_z w64 (of_z w64 v)) bs) → x ≡ added_times k e r a n (row_of k present v bs)
arm k r a n present v bs f q h = times-passed k (sym q) r a n (ap (λ (z : ℤ). row_of k present z bs) (to_z-of_z f)) h
