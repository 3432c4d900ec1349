-- 01, "Building": any calls on a builder from its creation on, refused ones among them, on memory that carries what the call before left, are answered as
-- the rows accepted so far alone tell. Assumes nothing.
use Prim.Native.Nat.{ℕ}
use mathlib.Core.Bool.{Bool, true, false, cond, not}
use mathlib.Core.List.{List, [], ◌∷◌, ◌++◌}
use mathlib.Core.Logic.{inl, inr}
use mathlib.Core.Path.{◌≡◌, refl, ap, ◌∙◌}
use lib.Dec.{ltb}
use lib.ListN.{length, drop, replicate}
use Rattle.limits.specs.Refusals.{ITEM, LIMIT, ROOM}
use Rattle.encode.specs.declared.Kind.{Kind}
use Rattle.plain.specs.Each.{Each}
use Rattle.plain.specs.Rows.{Row, fits}
use Rattle.format.specs.declared.Encoding.{Encoding}
use Rattle.format.specs.declared.Encoding.TheVariants.{Dictionary}
use Rattle.format.specs.Blocks.{column_of, block_of, column}
use Rattle.format.specs.Sizes.{within_limits}
use Rattle.append.specs.Appending.{Lent, room_of}
use Rattle.builder.specs.declared.Builder.{Builder}
use Rattle.std.specs.Prelude.{Ok, Some}
use Rattle.builder.specs.Building.{created}
use Rattle.builder.specs.Finishing.{finished}
use Rattle.building_laws.specs.Built.{Given, row_in, finish_due}
use Rattle.building_laws.proofs.Built.{finish-told, finish-due}
use Rattle.building_laws.proofs.Cut.{cut-after-each-row}
use Rattle.any_building_laws.specs.BuilderCalls.{Ask, append, finish, estimate, should_finish_before, Call, Answer, appends, finishes, asks, Allowed, block_due, after, answers}
use Rattle.any_building_laws.specs.BuilderCalls.{Carries, CarriedOn, Carried, need_of, below, append_number, due, accepted_by, expected, accepted_in, after_all}
use Rattle.any_building_laws.proofs.Carrying.{carries_same, Agrees, agrees-carried, agrees_first}
use Rattle.any_building_laws.proofs.OneCall.{one-call}

-- ---- what is due is never 9
module _ (k : Kind) (e : Encoding) (target key : ℕ) where
  number-allowed : (f w s : Bool) → Allowed (appends (cond (not f) ITEM (cond (not w) LIMIT (cond s ROOM 0))))
  number-allowed false w s = inr (inl refl)
  number-allowed true false s = inr (inr (inl refl))
  number-allowed true true true = inr (inr (inr refl))
  number-allowed true true false = inl refl

  finish-allowed : (block out : List ℕ) → Allowed (block_due block out)
  unfolding block_due
  finish-allowed block out = go (ltb (length out) (length block))
    where
      go : (t : Bool) → Allowed (cond t (finishes ROOM 0 out) (finishes 0 (length block) (block ++ drop (length block) out)))
      go true = inr refl
      go false = inl refl

  due-allowed : (rows : List Row) (a : Lent) (q : Ask) → Allowed (due k e target key rows a q)
  unfolding due append_number
  due-allowed rows a (append n v) =
      let more : List Row = rows ++ replicate n (row_in k v) in
      number-allowed (fits k (row_in k v)) (within_limits k e more) (below (need_of k e more) (room_of a))
  due-allowed rows a (finish out) = finish-allowed (block_of k e rows) out
  due-allowed rows a estimate = refl
  due-allowed rows a (should_finish_before v) = refl

  expected-allowed : (cs : List Call) (rows : List Row) → Each Allowed (expected k e target key rows cs)
  unfolding expected
  expected-allowed [] rows = tt
  expected-allowed (c ∷ cs) rows = (due-allowed rows c.areas c.ask, expected-allowed cs (accepted_by k e rows c.areas c.ask))

  -- ---- calls on a builder that agrees with the areas left
  answered : (cs : List Call) (rows : List Row) (r : Builder) (left : Lent) → Agrees k e target key rows r left → CarriedOn k e r left cs
      → answers r cs ≡ expected k e target key rows cs
  unfolding answers expected
  answered [] rows r left g h = refl
  answered (c ∷ cs) rows r left g h =
      let t = one-call k e target key rows r c.areas (agrees-carried k e target key rows r left c.areas g h.0) c.ask in
      rw t.answer
      (ap (λ (l : List Answer). due k e target key rows c.areas c.ask ∷ l)
      (answered cs (accepted_by k e rows c.areas c.ask) (after r c.areas c.ask).builder (after r c.areas c.ask).areas t.next h.1))

  reached : (cs : List Call) (rows : List Row) (r : Builder) (left : Lent) → Agrees k e target key rows r left → CarriedOn k e r left cs
      → Agrees k e target key (accepted_in k e rows cs) (after_all r left cs).builder (after_all r left cs).areas
  unfolding accepted_in after_all
  reached [] rows r left g h = g
  reached (c ∷ cs) rows r left g h =
      let t = one-call k e target key rows r c.areas (agrees-carried k e target key rows r left c.areas g h.0) c.ask in
      reached cs (accepted_by k e rows c.areas c.ask) (after r c.areas c.ask).builder (after r c.areas c.ask).areas t.next h.1

-- ---- from the creation on
module _ (kind encoding width target key : ℕ) (k : Kind) (e : Encoding) (column : column_of kind encoding width ≡ Some (column k e))
    (r : Builder) (new : created kind encoding width target key ≡ Ok r) where
  agrees-with : (a : Lent) → Agrees k e target key [] r a
  agrees-with a = agrees_first kind encoding width target key k e column r new a

  -- the first call is lent anything
  carried_on : (c : Call) (cs : List Call) → Carried k e r (c ∷ cs) → CarriedOn k e r c.areas (c ∷ cs)
  carried_on c cs h =
      let g = agrees-with c.areas in
      (carries_same k e [] r.counted c.areas g.stands.recorded g.enough, h)

  -- Any calls are answered as the rows accepted so far tell: the number of each append, the block, the estimate, whether to finish.
  pub any-building-calls : (cs : List Call) → Carried k e r cs → answers r cs ≡ expected k e target key [] cs
  unfolding answers expected
  any-building-calls [] h = refl
  any-building-calls (c ∷ cs) h = answered k e target key (c ∷ cs) [] r c.areas (agrees-with c.areas) (carried_on c cs h)

  -- No call is refused as 9: an append is answered with 0, 2, 3 or 4, finish with 0 or 4, the others with 0.
  pub never-disagrees : (cs : List Call) → Carried k e r cs → Each Allowed (answers r cs)
  never-disagrees cs h = rw (any-building-calls cs h) (expected-allowed k e target key cs [])

  -- After them the builder agrees with the areas that they left, and holds the rows accepted.
  pub agrees-after-any-calls : (cs : List Call) → Carried k e r cs → (a : Lent)
      → Agrees k e target key (accepted_in k e [] cs) (after_all r a cs).builder (after_all r a cs).areas
  unfolding accepted_in after_all
  agrees-after-any-calls [] h a = agrees-with a
  agrees-after-any-calls (c ∷ cs) h a = reached k e target key (c ∷ cs) [] r c.areas (agrees-with c.areas) (carried_on c cs h)

  -- So it does with other areas that carry the same.
  pub agrees-carried-after : (cs : List Call) → Carried k e r cs → (a lent : Lent) → Carries k e (after_all r a cs).builder.counted (after_all r a cs).areas lent
      → Agrees k e target key (accepted_in k e [] cs) (after_all r a cs).builder lent
  agrees-carried-after cs h a lent p =
      agrees-carried k e target key (accepted_in k e [] cs) (after_all r a cs).builder (after_all r a cs).areas lent (agrees-after-any-calls cs h a) p

  -- Finish then writes exactly the block of the rows accepted, nothing past it, and answers its length; a shorter room is refused as 4.
  pub finish-after-any-calls : (cs : List Call) → Carried k e r cs → (a lent : Lent) → Carries k e (after_all r a cs).builder.counted (after_all r a cs).areas lent
      → (out : List ℕ) → finished (after_all r a cs).builder lent out ≡ finish_due (after_all r a cs).builder (block_of k e (accepted_in k e [] cs)) out
  finish-after-any-calls cs h a lent p out =
      let g = agrees-carried-after cs h a lent p in
      finish-told k e target key (accepted_in k e [] cs) (after_all r a cs).builder lent g.stands g.enough out
      ∙ finish-due (after_all r a cs).builder (block_of k e (accepted_in k e [] cs)) out

-- The nightly importer's dictionary, whose keys have the target 0: it is due to be finished as soon as a row has been accepted.
pub importer-cuts : (k : Kind) (target : ℕ) (rows : List Row) (a : Lent) (g : Given)
    → due k Dictionary target 0 rows a (should_finish_before g) ≡ asks 0 (ltb 0 (length rows))
unfolding due
importer-cuts k target rows a g = ap (asks 0) (cut-after-each-row k target rows (row_in k g))
