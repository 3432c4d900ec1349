-- The four areas of a read that hold the same one by one are the same. Assumes nothing.
use mathlib.Core.Path.{◌≡◌}
use Rattle.block.specs.Reading.{Areas, areas}

pub same-areas : (a b : Areas) → a.values ≡ b.values → a.flags ≡ b.flags → a.ends ≡ b.ends → a.bytes ≡ b.bytes → a ≡ b
same-areas a b v f e t = whole
  where
    whole : areas a.values a.flags a.ends a.bytes ≡ areas b.values b.flags b.ends b.bytes
    whole = rw (v, f, e, t)
