-- What the tests of `print` and `print_column` lead to: of a column that is opened no row is refused. Assumes nothing.
use Prim.Native.Nat.{ℕ, ◌≤◌, ◌<◌}
use native.Mathlib.Nat.{min-le_right}
use native.Mathlib.Omega.{arith}
use mathlib.Core.List.{List}
use mathlib.Core.Path.{◌≡◌, sym, ap, ◌∙◌}
use lib.ListN.{length, drop, length-take, length-drop}
use borrow.Author.Tests.{lt-ltb, le-ltb}
use Rattle.limits.specs.Limits.{MOST_INPUT}
use Rattle.limits.specs.Refusals.{LIMIT}
use Rattle.printing.specs.Printing.{listed}
use Rattle.printing.proofs.RowsListed.{opened-listed}
use Rattle.sheet.specs.declared.Found.{Found}
use Rattle.sheet.specs.Sheet.{entry_at, descriptor_in, offset_in, length_in, named_by, column_found, column_part}
use Rattle.sheet_laws.proofs.Cases.{Case, opens, refuses, case, opened-fields, part-named}
use Rattle.std.specs.Prelude.{Option}
use Rattle.column_by.specs.Named.{column_named}
use Rattle.column_by.specs.Asked.{named_number, column_asked}

module _ (f : List ℕ) (j : ℕ) where
  named-short : length (named_by (entry_at j f) f) ≤ length f
  named-short =
      let e = entry_at j f in
      omega (arith, length-drop (offset_in e) f, length-take (length_in e) (drop (offset_in e) f), min-le_right (length_in e) (length (drop (offset_in e) f)))

  column-listed : (column_found f j).number ≡ 0 → length f ≤ MOST_INPUT → listed (column_found f j).reader (column_part f j) ≡ 0
  column-listed z l = go (case f j)
    where
      go : Case f j → listed (column_found f j).reader (column_part f j) ≡ 0
      go (opens n r o e) =
          let d = descriptor_in (entry_at j f) in
          let b = named_by (entry_at j f) f in
          rw (part-named f j n, e) (opened-listed d.kind d.encoding d.width d.rows b r (opened-fields d b r o) (omega (arith, named-short, l)))
      go (refuses m h e) = absurd (omega (arith, rw e at z))

  pub column-told :
      {x : Found} {block : List ℕ} {n : ℕ} → x ≡ column_found f j → block ≡ column_part f j → length f ≤ MOST_INPUT → x.number ≡ 0
      → n ≡ listed x.reader block → n ≡ (column_found f j).number
  column-told {x} {block} e part l z q =
      let zero-found : (column_found f j).number ≡ 0 = ap (λ (y : Found). y.number) (sym e) ∙ z in
      q
      ∙ ap (λ (y : Found). listed y.reader block) e
      ∙ ap (listed (column_found f j).reader) part
      ∙ column-listed zero-found l
      ∙ sym zero-found

-- ---- the tests, in order
module _ (f text : List ℕ) where
  pub file-long : MOST_INPUT < length f → LIMIT ≡ column_asked f text
  unfolding column_asked
  file-long h = rw (lt-ltb MOST_INPUT (length f) h)

  pub named-as : length f ≤ MOST_INPUT → {x : Option ℕ} → x ≡ column_named text → {n : ℕ} → n ≡ named_number f x → n ≡ column_asked f text
  unfolding column_asked
  named-as h e q = rw (le-ltb MOST_INPUT (length f) h) (q ∙ ap (named_number f) e)
