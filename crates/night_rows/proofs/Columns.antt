-- What a block's number tells of its rows and of its verdict; which rows are due. Assumes nothing.
use Rattle.std.specs.Prelude.{Some}
use Prim.Native.Nat.{ℕ, ◌+◌, ◌-◌, ◌≤◌, ◌<◌}
use native.Mathlib.Omega.{arith}
use mathlib.Core.List.{List}
use mathlib.Core.Path.{◌≡◌, ◌∙◌}
use lib.Dec.{ltb}
use lib.ListN.{length}
use borrow.Author.Tests.{le-leb, lt-leb, ne_eqb, ltb-false}
use Rattle.std.specs.Prelude.{Result, Ok}
use Rattle.limits.specs.Limits.{MOST_ROWS, MOST_BYTES}
use Rattle.limits.specs.Refusals.{LIMIT}
use Rattle.encode.specs.declared.Kind.{Kind}
use Rattle.plain.specs.Plain.{places}
use Rattle.plain.specs.Rules.{◌if◌}
use Rattle.plain.proofs.Rules as rules
use Rattle.format.specs.declared.Encoding.{Encoding}
use Rattle.format.specs.Opening.{most_rows, column_number}
use Rattle.fill.specs.Areas.{Areas}
use Rattle.block.proofs.RecordTests.{most-rows}
use Rattle.descriptor.specs.declared.Descriptor.{Descriptor}
use Rattle.descriptor.specs.Descriptor.{described_number}
use Rattle.slow_answer.specs.Slow.{refused_row, row_shown}
use Rattle.slow_laws.proofs.Openings.{kept}
use Rattle.slow_laws.proofs.Refusing.{refused-as-opening}
use Rattle.night_rows.specs.declared.Verdict.{Verdict}
use Rattle.night_rows.specs.declared.Verdict.TheVariants.{Same, Refused}
use Rattle.night_rows.specs.Night.{powers_among, rows_compared, verdict_of}
use Rattle.format.specs.Blocks.{column}

-- ---- a sound block has no more rows than any block
few-in : (k : Kind) (e : Encoding) (n : ℕ) (b : List ℕ) → column_number (Some (column k e)) n b ≡ 0 → n ≤ MOST_ROWS
unfolding column_number
few-in k e n b z =
    let short = rules.kept (LIMIT if ltb MOST_BYTES (length b)) _ z in
    let few = rules.kept (LIMIT if ltb (most_rows e) n) _ short.1 in
    let most = ltb-false (most_rows e) n (rules.whole LIMIT _ (omega arith) few.0) in
    omega (arith, most, most-rows e)

module _ (d : Descriptor) (b : List ℕ) where
  pub few-rows : described_number d b ≡ 0 → d.rows ≤ MOST_ROWS
  few-rows z = let c = kept d b z in few-in c.kind c.encoding d.rows b c.sound

  -- ---- what a number comes to
  pub refused-shown : {e : ℕ} → e ≡ described_number d b → (e ≡ 0 → ⊥) → (a : Areas) → row_shown d b 0 a ≡ refused_row e a
  refused-shown p h a = rw p (refused-as-opening d b 0 a (λ z. h (p ∙ z)))

  pub refused-verdict : {e : ℕ} → e ≡ described_number d b → (e ≡ 0 → ⊥) → Refused e ≡ verdict_of d b
  unfolding verdict_of
  refused-verdict {e} p h = rw (← p, ne_eqb e 0 h)

  pub same-verdict : {v : Verdict} → described_number d b ≡ 0 → v ≡ Same (rows_compared d.rows) → v ≡ verdict_of d b
  unfolding verdict_of
  same-verdict z e = rw z e

-- ---- which rows are due
pub none-due : (n : ℕ) → n ≡ 0 → Same 0 ≡ Same (rows_compared n)
unfolding rows_compared
none-due n h = rw h

pub all-due : (n : ℕ) → n ≤ 2000 → n - 0 ≡ rows_compared n
unfolding rows_compared
all-due n h = rw (le-leb n 2000 h) (omega arith)

pub some-due : (n a b c : ℕ) → 2000 < n → a ≡ 1000 - 0 → b ≡ powers_among (n - 1000) (places 48 0) → c ≡ n - (n - 1000) → a + b + c ≡ rows_compared n
unfolding rows_compared
some-due n a b c h p q r = rw (lt-leb n 2000 h) (omega arith)

-- ---- what an answer that is known holds
pub same_of : {A : Type 0} {r : Result ℕ A} {n m : ℕ} → r ≡ Ok n → r ≡ Ok m → m ≡ n
same_of p q = cc
