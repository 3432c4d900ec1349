-- For the code: char items that are rows by themselves. Assumes nothing.
use Rattle.std.specs.Prelude.{ℕ, ◌≡◌, false}
use Rattle.encode.specs.declared.Kind.TheVariants.{Char}
use Rattle.source.specs.declared.Marks.TheVariants.{Bare}
use Rattle.source.specs.declared.Source.{Source}

-- rows of char that are an item each, with no marks
pub record Alone (s : Source) (w : ℕ) : Type 0 where
  pub kind : s.kind ≡ Char w
  pub coded : s.coded ≡ false
  pub bare : s.marks ≡ Bare
