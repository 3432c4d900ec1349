-- Which case of the definitions the tests of `open` and `block_of` lead to. Assumes nothing.
use Prim.Native.Nat.{ℕ, ◌-◌, ◌≤◌, ◌<◌}
use native.Mathlib.Omega.{arith}
use mathlib.Core.Path.{◌≡◌}
use mathlib.Core.List.{List}
use lib.ListN.{length, take, drop, length-drop}
use lib.Seq.{take_all}
use borrow.Author.Tests.{lt-ltb, le-ltb}
use Rattle.std.specs.Prelude.{Result, Err}
use Rattle.limits.specs.Limits.{MOST_INPUT}
use Rattle.limits.specs.Refusals.{LIMIT, CUT}
use Rattle.encode.proofs.Cells.{cells, unroll}
use Rattle.block.specs.declared.Reader.{Reader}
use Rattle.descriptor.specs.declared.Descriptor.{Descriptor}
use Rattle.descriptor.specs.Descriptor.{descriptor_of, described_opened}
use Rattle.text.specs.Input.{input_opened, block_in}

-- ---- what follows the descriptor
pub rest-is : (s : List ℕ) → take (length s - 8) (drop 8 s) ≡ drop 8 s
rest-is s = take_all (length s - 8) (drop 8 s) (rw (length-drop 8 s) (omega arith))

module _ (s : List ℕ) where
  pub block-short : length s < 8 → s ≡ block_in s
  unfolding block_in
  block-short h = rw (lt-ltb (length s) 8 h)

  pub block-rest : 8 ≤ length s → take (length s - 8) (drop 8 s) ≡ block_in s
  unfolding block_in
  block-rest h = rw (le-ltb (length s) 8 h) (rest-is s)

  -- ---- `open`
  pub input-short : length s < 8 → Err CUT ≡ input_opened s
  unfolding input_opened
  input-short h = rw (lt-ltb (length s) 8 h)

  pub input-long : 8 ≤ length s → MOST_INPUT < length s → Err LIMIT ≡ input_opened s
  unfolding input_opened
  input-long h k = rw (le-ltb (length s) 8 h, lt-ltb MOST_INPUT (length s) k)

  pub input-opened :
      {d : Descriptor} {r : Result Reader ℕ} → 8 ≤ length s → length s ≤ MOST_INPUT → d ≡ descriptor_of (cells 8 0 s)
      → r ≡ described_opened d (take (length s - 8) (drop 8 s)) → r ≡ input_opened s
  unfolding input_opened
  input-opened {d} {r} h k q e =
      let u : take 8 s ≡ cells 8 0 s = unroll 8 0 s (omega arith) in
      rw (le-ltb (length s) 8 h, le-ltb MOST_INPUT (length s) k, u, ← q, ← rest-is s) e
