-- A side that was taken apart: its rows can be walked, and both sides are of one kind. Assumes nothing.
use Rattle.std.specs.Prelude.{Option, Some, None}
use Prim.Native.Nat.{ℕ, zero, suc, ◌≤◌, ◌<◌, ◌^◌}
use native.Mathlib.Omega.{arith}
use mathlib.Core.Bool.{Bool, true, false, cond}
use mathlib.Core.List.{List}
use mathlib.Core.Path.{◌≡◌, refl, sym, ap, ◌∙◌}
use lib.Dec.{eqb}
use lib.ListN.{length, take}
use Rattle.limits.specs.Limits.{MOST_ROWS}
use Rattle.encode.specs.declared.Kind.{Kind}
use Rattle.encode.specs.Kinds.{kind_of}
use Rattle.plain.specs.Rows.{Row}
use Rattle.format.specs.declared.Encoding.{Encoding}
use Rattle.format.specs.declared.Encoding.TheVariants.{Plain, Nullable, RunLength, RunLengthNullable, Dictionary}
use Rattle.format.specs.declared.Column.{Column}
use Rattle.format.specs.Blocks.{with_encoding, column_of, column}
use Rattle.format.specs.Opening.{most_rows, rows_of}
use Rattle.anatomy.specs.declared.Parts.{Parts}
use Rattle.anatomy.specs.Parts.{part_in, marks_in, items_in, AllWithin}
use Rattle.descriptor.specs.declared.Descriptor.{Descriptor}
use Rattle.in_step.specs.Walking.{rows_walked, Walks}
use Rattle.comparing.specs.Comparing.{rows_in, described_rows}
use Rattle.comparing.specs.Taken.{Opens}
use Rattle.comparing.proofs.Blocks.{block-walks, block-rows, block_within, block-kind, block-long, block-few}

-- ---- the kind that a column's numbers name
abbrev kind-in : Kind → Option Column → Kind
kind-in k (Some c) = c.kind
kind-in k None = k

of-kind : {k k' : Kind} {e f : Encoding} → ◌≡◌ {A = Option Column} (Some (column k' f)) (Some (column k e)) → k' ≡ k
of-kind {k = k} q = ap (kind-in k) q

never-of : {k : Kind} {e : Encoding} → ◌≡◌ {A = Option Column} None (Some (column k e)) → ⊥
never-of q = let z : ◌≡◌ {A = ℕ} 0 1 = cc in omega arith

kind-by : (f : Option Kind) (n : ℕ) {k : Kind} {e : Encoding} → with_encoding f n ≡ Some (column k e) → f ≡ Some k
unfolding with_encoding
kind-by None n {k} {e} q = absurd (never-of q)
kind-by (Some k') n {k} {e} q = ap Some (go (eqb n 0) (eqb n 1) (eqb n 2) (eqb n 3) (eqb n 4) q)
  where
    go : (a b c d f : Bool)
        → cond a (Some (column k' Plain)) (cond b (Some (column k' Nullable)) (cond c (Some (column k' RunLength))
        (cond d (Some (column k' RunLengthNullable)) (cond f (Some (column k' Dictionary)) None)))) ≡ Some (column k e)
        → k' ≡ k
    go true b c d f q = of-kind q
    go false true c d f q = of-kind q
    go false false true d f q = of-kind q
    go false false false true f q = of-kind q
    go false false false false true q = of-kind q
    go false false false false false q = absurd (never-of q)

kind-named : (kind encoding width : ℕ) {k : Kind} {e : Encoding} → column_of kind encoding width ≡ Some (column k e) → kind_of kind width ≡ Some k
unfolding column_of
kind-named kind encoding width q = kind-by (kind_of kind width) encoding q

known-once : {k k' : Kind} → ◌≡◌ {A = Option Kind} (Some k) (Some k') → k ≡ k'
known-once q = cc

rows-most : (e : Encoding) → most_rows e ≤ MOST_ROWS
unfolding most_rows
rows-most Plain = omega arith
rows-most Nullable = omega arith
rows-most RunLength = omega arith
rows-most RunLengthNullable = omega arith
rows-most Dictionary = omega arith

-- ---- one side
module _ {d : Descriptor} {b : List ℕ} {p : Parts} (o : Opens d b p) where
  rows_are : described_rows d b ≡ rows_of o.kind o.encoding d.rows b
  unfolding rows_in
  rows_are = rw o.named

  pub side-long : length (described_rows d b) ≡ d.rows
  side-long = ap length rows_are ∙ block-long d.kind d.encoding d.width d.rows b o.kind o.encoding o.named o.sound 0 (omega arith) (omega arith)

  pub side-few : d.rows ≤ MOST_ROWS
  side-few =
      omega (arith, rows-most o.encoding, block-few d.kind d.encoding d.width d.rows b o.kind o.encoding o.named o.sound 0 (omega arith) (omega arith))

  pub side-within : AllWithin p (length b)
  side-within = rw o.parts (block_within d.kind d.encoding d.width d.rows b o.kind o.encoding o.named o.sound 0 (omega arith) (omega arith))

  pub side-kind : p.source.kind ≡ o.kind
  side-kind = rw o.parts (block-kind d.kind d.encoding d.width d.rows b o.kind o.encoding o.named o.sound 0 (omega arith) (omega arith))

  module _ (m : ℕ) (few : m ≤ d.rows) where
    pub side-walks : Walks p.source (part_in p.counts b) (marks_in p b) (items_in p b) m
    side-walks =
        rw o.parts (block-walks d.kind d.encoding d.width d.rows b o.kind o.encoding o.named o.sound m few (omega (arith, side-few)))

    pub side-rows : rows_walked p.source (part_in p.counts b) (marks_in p b) (items_in p b) m ≡ take m (described_rows d b)
    side-rows =
        rw o.parts (block-rows d.kind d.encoding d.width d.rows b o.kind o.encoding o.named o.sound m few (omega (arith, side-few)))
        ∙ ap (take m) (sym rows_are)

-- ---- two sides of one kind and width
pub one-kind :
    {a b : Descriptor} {x y : List ℕ} {p q : Parts} → Opens a x p → Opens b y q → a.kind ≡ b.kind → a.width ≡ b.width
    → p.source.kind ≡ q.source.kind
one-kind {a} {b} o u k w =
    let same : kind_of a.kind a.width ≡ kind_of b.kind b.width = rw (k, w) in
    side-kind o
    ∙ known-once (sym (kind-named a.kind a.encoding a.width o.named) ∙ same ∙ kind-named b.kind b.encoding b.width u.named)
    ∙ sym (side-kind u)
