-- Which case the tests of a read lead to, and what they tell of the read. Assumes nothing.
use Prim.Native.Nat.{ℕ, ◌-◌, ◌≤◌, ◌<◌}
use native.Mathlib.Omega.{arith}
use mathlib.Core.Path.{◌≡◌, refl, sym, ap, ◌∙◌}
use mathlib.Core.Bool.{Bool, true, false, cond, not, ◌||◌}
use mathlib.Core.List.{List}
use lib.Dec.{ltb, eqb}
use lib.ListN.{length}
use Rattle.std.specs.Prelude.{Result, Ok, Err, Option, Some, None}
use borrow.Author.Tests.{lt-ltb, le-ltb, eq-eqb, ne_eqb, ltb-false, eqb-true, not-false}
use Rattle.limits.specs.Refusals.{NO_ROWS, TOO_FAR, DISAGREE}
use Rattle.encode.specs.declared.Kind.{Kind}
use Rattle.encode.proofs.Bools.{neither}
use Rattle.format.specs.declared.Encoding.{Encoding}
use Rattle.format.specs.declared.Column.{Column}
use Rattle.format.specs.Blocks.{column, column_of}
use Rattle.fill.specs.Areas.{Areas}
use Rattle.block.specs.declared.Reader.{Reader}
use Rattle.block.specs.Reading.{wrong, next_steps, Batch, refused_batch, pass_then, read_in, asks_nothing, read}
use Rattle.block.specs.Spots.{tests_in, tests_of}
use Rattle.block.proofs.RecordTests.{right}
use Rattle.block.proofs.ReadRows.{Passed}

-- ---- what each return of the tests answers
module _ (r : Reader) (len skip size : ℕ) {none : Bool} (asked : none ≡ asks_nothing skip size) where
  pub tests-nothing : none ≡ true → Err NO_ROWS ≡ tests_of r len skip size
  unfolding tests_of
  tests-nothing h = rw (← asked, h)

  module _ (some : none ≡ false) {x : Option Column} (named : x ≡ column_of r.kind r.encoding r.width) where
    pub tests-unknown : x ≡ None → Err DISAGREE ≡ tests_of r len skip size
    unfolding tests_of tests_in
    tests-unknown q = rw (← asked, some, ← named, q)

    module _ {k : Kind} {e : Encoding} (q : x ≡ Some (column k e)) where
      pub tests-other : (len ≡ r.len → ⊥) → Err DISAGREE ≡ tests_of r len skip size
      unfolding tests_of tests_in
      tests-other h = rw (← asked, some, ← named, q) (simp (ne_eqb len r.len h))

      module _ (long : len ≡ r.len) {t : Bool} (tested : t ≡ wrong k e r) where
        pub tests-wrong : t ≡ true → Err DISAGREE ≡ tests_of r len skip size
        unfolding tests_of tests_in
        tests-wrong h = rw (← asked, some, ← named, q, ← tested, h) (simp (eq-eqb len r.len long))

        module _ (fine : t ≡ false) where
          pub tests-far : r.rows - r.place < skip → Err TOO_FAR ≡ tests_of r len skip size
          unfolding tests_of tests_in
          tests-far h = rw (← asked, some, ← named, q, ← tested, fine) (simp (eq-eqb len r.len long, lt-ltb (r.rows - r.place) skip h))

          pub tests-fine : skip ≤ r.rows - r.place → Ok (column k e) ≡ tests_of r len skip size
          unfolding tests_of tests_in
          tests-fine h = rw (← asked, some, ← named, q, ← tested, fine) (simp (eq-eqb len r.len long, le-ltb (r.rows - r.place) skip h))

-- ---- what the tests tell of the read
module _ (r : Reader) (b : List ℕ) (skip size : ℕ) (a : Areas) where
  abbrev by_tests : Result Column ℕ → Batch
  by_tests (Err number) = refused_batch number r a
  by_tests (Ok c) = pass_then c.kind c.encoding r b skip size a (next_steps c.encoding r b skip)

  read-by-tests : by_tests (tests_of r (length b) skip size) ≡ read r b skip size a
  unfolding tests_of tests_in read read_in
  read-by-tests = go (asks_nothing skip size) (column_of r.kind r.encoding r.width)
    where
      known : (k : Kind) (e : Encoding) (s t : Bool)
          → by_tests (cond {A = Result Column ℕ} s (Err DISAGREE) (cond {A = Result Column ℕ} t (Err TOO_FAR) (Ok (column k e))))
          ≡ cond s (refused_batch DISAGREE r a) (cond t (refused_batch TOO_FAR r a) (pass_then k e r b skip size a (next_steps e r b skip)))
      known k e true t = refl
      known k e false true = refl
      known k e false false = refl

      go : (t : Bool) (x : Option Column)
          → by_tests (cond t (Err NO_ROWS) (tests_in x r (length b) skip)) ≡ cond t (refused_batch NO_ROWS r a) (read_in x r b skip size a)
      go true x = refl
      go false None = refl
      go false (Some c) = known c.kind c.encoding (not (eqb (length b) r.len) || wrong c.kind c.encoding r) (ltb (r.rows - r.place) skip)

  -- a test that refuses is none that lets through
  unlike : {number : ℕ} {x : Column} → ◌≡◌ {A = Result Column ℕ} (Err number) (Ok x) → ⊥
  unlike q = let z : ◌≡◌ {A = ℕ} 0 1 = cc in omega arith

  record Told (k : Kind) (e : Encoding) : Type 0 where
    long : length b ≡ r.len
    fine : wrong k e r ≡ false
    within : skip ≤ r.rows - r.place

  told-fine : (k : Kind) (e : Encoding) → tests_of r (length b) skip size ≡ Ok (column k e) → Told k e
  unfolding tests_of tests_in
  told-fine k e = go (asks_nothing skip size) (column_of r.kind r.encoding r.width)
    where
      known : (l : Kind) (f : Encoding) (s t : Bool) → (not (eqb (length b) r.len) || wrong l f r) ≡ s → ltb (r.rows - r.place) skip ≡ t
          → cond {A = Result Column ℕ} s (Err DISAGREE) (cond {A = Result Column ℕ} t (Err TOO_FAR) (Ok (column l f))) ≡ Ok (column k e) → Told k e
      known l f true t g h q = absurd (unlike q)
      known l f false true g h q = absurd (unlike q)
      known l f false false g h q =
          let n = neither (not (eqb (length b) r.len)) (wrong l f r) g in
          let same : column l f ≡ column k e = cc in
          let lk : l ≡ k = ap (λ (x : Column). x.kind) same in
          let fe : f ≡ e = ap (λ (x : Column). x.encoding) same in
          record {
            long = eqb-true (length b) r.len (not-false _ n.0);
            fine = ap (λ (y : Kind). wrong y e r) (sym lk) ∙ ap (λ (y : Encoding). wrong l y r) (sym fe) ∙ n.1;
            within = ltb-false (r.rows - r.place) skip h;
          }

      go : (t : Bool) (x : Option Column) → cond t (Err NO_ROWS) (tests_in x r (length b) skip) ≡ Ok (column k e) → Told k e
      go true x q = absurd (unlike q)
      go false None q = absurd (unlike q)
      go false (Some c) q = known c.kind c.encoding (not (eqb (length b) r.len) || wrong c.kind c.encoding r) (ltb (r.rows - r.place) skip) refl refl q

  pub read-refused : {number : ℕ} → Err number ≡ tests_of r (length b) skip size → refused_batch number r a ≡ read r b skip size a
  read-refused q = ap by_tests q ∙ read-by-tests

  pub read-passed : {k : Kind} {e : Encoding} → Ok (column k e) ≡ tests_of r (length b) skip size → Passed r b skip size a k e
  read-passed {k} {e} q =
      let h = told-fine k e (sym q) in
      record {
        right = right k e r h.fine;
        long = h.long;
        within = h.within;
        on = ap by_tests q ∙ read-by-tests;
      }
