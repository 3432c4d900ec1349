-- What a list says of its last row once more is what the numbers say: it joins its run while that can take one row more; else its item is stored again, but
-- for an entry; its key is the same. Assumes nothing.
use mathlib.Core.Bool.{Bool, true, not, and-true}
use mathlib.Core.List.{List, [], ◌∷◌, ◌++◌}
use mathlib.Core.Path.{◌≡◌, refl, ap, ◌∙◌}
use lib.ListN.{length}
use Rattle.encode.specs.declared.Kind.{Kind}
use Rattle.plain.specs.Rows.{Row, int_in}
use Rattle.rle.specs.RunLength.{Run, runs_of}
use Rattle.dict.specs.Dictionary.{entries_of, key_of}
use Rattle.format.specs.declared.Encoding.{Encoding}
use Rattle.format.specs.declared.Encoding.TheVariants.{Plain, Nullable, RunLength, RunLengthNullable, Dictionary}
use Rattle.format.specs.Sizes.{keys_of}
use Rattle.needs.specs.declared.Counted.{Counted}
use Rattle.needs.specs.Needs.{coded, keyed}
use Rattle.step.specs.Steps.{run_open}
use Rattle.copies.specs.Copies.{Stage, stage, one_more, joins_again, stores_again, once_more}
use Rattle.building_laws.specs.Built.{stored_runs}
use Rattle.building_laws.proofs.Same.{same_refl}
use Rattle.building_laws.proofs.Runs.{last_run, joins_last, Grows}
use Rattle.building_laws.proofs.Entries.{not-new-again, key-again}
use Rattle.building_laws.proofs.OneRowMore.{joins_by, item_by, coded_row, key_by, runs-next, last-next}
use Rattle.building_laws.proofs.Records.{Recorded, next_by}
use Rattle.building_laws.proofs.AreasOfRows.{written_by}

-- the last run is of what came last: so that joins it once more while it can take one row more
joins-own-run : (joins : Bool) (z : Row) (rs rs' : List Run) (r : Counted) → Grows true joins z rs rs' → r.runs ≡ length rs' → r.last ≡ (last_run rs').count
    → joins_last rs' z ≡ run_open r
unfolding joins_last run_open
joins-own-run joins z rs rs' r g n c = rw (n, c, last-next joins z rs rs' g, same_refl z, and-true)

module _ (k : Kind) (rows : List Row) (x : Row) (r : Counted) where
  joins-again : (e : Encoding) → Recorded k e (rows ++ (x ∷ [])) r → joins_by e (rows ++ (x ∷ [])) x ≡ joins_again e r
  unfolding joins_by joins_again coded_row stored_runs coded
  joins-again Plain h = refl
  joins-again Nullable h = refl
  joins-again RunLength h = joins-own-run (joins_by RunLength rows x) x (runs_of rows) (runs_of (rows ++ (x ∷ []))) r (runs-next RunLength rows x) h.runs h.last
  joins-again RunLengthNullable h =
      joins-own-run (joins_by RunLengthNullable rows x) x (runs_of rows) (runs_of (rows ++ (x ∷ []))) r (runs-next RunLengthNullable rows x) h.runs h.last
  joins-again Dictionary h =
      ap (joins_last (runs_of (keys_of (rows ++ (x ∷ []))))) (key-again rows x)
      ∙ joins-own-run (joins_by Dictionary rows x) (key_of (entries_of rows) x) (runs_of (keys_of rows)) (runs_of (keys_of (rows ++ (x ∷ [])))) r
      (runs-next Dictionary rows x) h.runs h.last

  stores-again : (e : Encoding) → Recorded k e (rows ++ (x ∷ [])) r → item_by e (rows ++ (x ∷ [])) x ≡ stores_again e r
  unfolding item_by joins_by stores_again joins_again coded keyed
  stores-again Plain h = refl
  stores-again Nullable h = refl
  stores-again RunLength h = ap not (joins-again RunLength h)
  stores-again RunLengthNullable h = ap not (joins-again RunLengthNullable h)
  stores-again Dictionary h = not-new-again rows x

pub same-key-again : (e : Encoding) (rows : List Row) (x : Row) → key_by e (rows ++ (x ∷ [])) x ≡ key_by e rows x
unfolding key_by
same-key-again Plain rows x = refl
same-key-again Nullable rows x = refl
same-key-again RunLength rows x = refl
same-key-again RunLengthNullable rows x = refl
same-key-again Dictionary rows x = ap int_in (key-again rows x)

-- The last row once more, counted in and written as the list says.
pub once-more-told : (k : Kind) (e : Encoding) (rows : List Row) (x : Row) (g : Stage) → let xs = rows ++ (x ∷ []) in Recorded k e xs g.counted
    → once_more k e x (key_by e rows x) g ≡ stage (next_by k e xs x g.counted) (written_by k e xs x g.counted g.areas)
unfolding once_more one_more
once-more-told k e rows x g h = rw (joins-again k rows x g.counted e h, stores-again k rows x g.counted e h, same-key-again e rows x)
