-- 01, "Reading", for several blocks that lie in one memory and are read in any order: each is answered as if it were alone. Assumes nothing.
use Prim.Native.Nat.{ℕ}
use mathlib.Core.Bool.{Bool, true, false, cond}
use mathlib.Core.List.{List, [], ◌∷◌}
use mathlib.Core.Path.{◌≡◌, refl, sym, ap, ◌∙◌}
use lib.Dec.{eqb}
use borrow.Author.Tests.{eqb-true}
use Rattle.std.specs.Prelude.{Result, Ok, Some}
use Rattle.encode.specs.declared.Kind.{Kind}
use Rattle.format.specs.declared.Encoding.{Encoding}
use Rattle.format.specs.Blocks.{column_of, column}
use Rattle.format.specs.Opening.{open_number, rows_of}
use Rattle.block.specs.declared.Reader.{Reader}
use Rattle.block.specs.Reading.{opened}
use Rattle.block.specs.Calls.{Call, Answer, answer_to, after, play, play_opened}
use Rattle.reading_laws.specs.Calls.{expected}
use Rattle.reading_laws.proofs.Calls.{any-calls}
use Rattle.reading_laws.proofs.Consequences.{opened-by-number}
use Rattle.apart_laws.specs.Apart.{Place, bytes_at, Step, changed, told, calls_on, answers_of, Holding}

-- one of the blocks, the calls on whichever block, and what is answered on this one
module _ (places : ℕ → Place) (j : ℕ) (b : List ℕ) where
  -- a call on any block, where what follows is answered on block j as if it were alone
  one-step :
      (readers : ℕ → Reader) (i : ℕ) (c : Call) (memory : List ℕ) → (i ≡ j → bytes_at (places j) memory ≡ b)
      → (as' : List Answer) (cs : List Call) (t : Bool) → eqb i j ≡ t
      → as' ≡ play (cond t (after (readers i) (bytes_at (places i) memory) c) (readers j)) b cs
      → cond t (answer_to (readers i) (bytes_at (places i) memory) c ∷ as') as' ≡ play (readers j) b (cond t (c ∷ cs) cs)
  unfolding play
  one-step readers i c memory held as' cs true e ih =
      let on-j : i ≡ j = eqb-true i j e in
      let same : answer_to (readers i) (bytes_at (places i) memory) c ≡ answer_to (readers j) b c
      = ap (λ (x : ℕ). answer_to (readers x) (bytes_at (places x) memory) c) on-j ∙ ap (λ (l : List ℕ). answer_to (readers j) l c) (held on-j) in
      let next : after (readers i) (bytes_at (places i) memory) c ≡ after (readers j) b c
      = ap (λ (x : ℕ). after (readers x) (bytes_at (places x) memory) c) on-j ∙ ap (λ (l : List ℕ). after (readers j) l c) (held on-j) in
      ap (λ (a : Answer). a ∷ as') same
      ∙ ap (λ (l : List Answer). answer_to (readers j) b c ∷ l) (ih ∙ ap (λ (r : Reader). play r b cs) next)
  one-step readers i c memory held as' cs false e ih = ih

  -- Whatever the other blocks are, whatever memory holds elsewhere and at each call, and whichever records the other readers are, block j is
  -- answered as if it were read alone.
  pub as-if-alone :
      (steps : List Step) → Holding j (places j) b steps → (readers : ℕ → Reader)
      → answers_of j (told places readers steps) ≡ play (readers j) b (calls_on j steps)
  unfolding told calls_on answers_of changed
  as-if-alone [] h readers = unfold play in refl
  as-if-alone (x ∷ xs) h readers =
      let now : Reader = after (readers x.which) (bytes_at (places x.which) x.memory) x.call in
      let ih = as-if-alone xs h.1 (changed readers x.which now) in
      one-step readers x.which x.call x.memory h.0 _ (calls_on j xs) (eqb x.which j) refl ih

  -- So a block that was opened where it lies is read as any calls on it alone are: its rows, and nothing else in memory, tell the answers.
  pub read-exactly :
      (kind encoding width n : ℕ) (memory : List ℕ) → bytes_at (places j) memory ≡ b
      → (readers : ℕ → Reader) → opened kind encoding width n (bytes_at (places j) memory) ≡ Ok (readers j)
      → (k : Kind) (e : Encoding) → column_of kind encoding width ≡ Some (column k e)
      → (steps : List Step) → Holding j (places j) b steps
      → answers_of j (told places readers steps) ≡ expected k (rows_of k e n b) (calls_on j steps)
  unfolding play_opened
  read-exactly kind encoding width n memory held readers o k e c steps h =
      let here : opened kind encoding width n b ≡ Ok (readers j) = ap (opened kind encoding width n) (sym held) ∙ o in
      let z : open_number kind encoding width n b ≡ 0 = (opened-by-number kind encoding width n b).0 (readers j, here) in
      as-if-alone steps h readers
      ∙ ap (λ (x : Result Reader ℕ). play_opened x b (calls_on j steps)) (sym here)
      ∙ any-calls kind encoding width n b k e z c (calls_on j steps)

-- Opening, too, comes from the bytes of the block's place alone: two memories that hold the same there give the same record or the same refusal.
pub refused-alone :
    (kind encoding width n : ℕ) (p : Place) (memory memory' : List ℕ) → bytes_at p memory ≡ bytes_at p memory'
    → opened kind encoding width n (bytes_at p memory) ≡ opened kind encoding width n (bytes_at p memory')
refused-alone kind encoding width n p memory memory' h = ap (opened kind encoding width n) h
