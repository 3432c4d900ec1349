-- Building gives the block: of any list of rows, for every kind, width and encoding. Assumes nothing.
use Prim.Native.Nat.{ℕ}
use native.Mathlib.Nat.{zero-add}
use native.Mathlib.Omega.{arith}
use mathlib.Core.Bool.{Bool, true, false, cond, not}
use mathlib.Core.List.{List, [], ◌∷◌, ◌++◌, append_assoc, append-nil, map-append}
use mathlib.Core.Logic.{◌⊎◌}
use mathlib.Core.Path.{◌≡◌, refl, sym, ap, subst, ◌∙◌}
use lib.Dec.{eqb}
use lib.ListN.{length}
use borrow.Author.Tests.{eqb-true, eq-eqb}
use Rattle.limits.specs.Refusals.{ITEM, LIMIT}
use Rattle.area.specs.Area.{over}
use Rattle.encode.specs.declared.Kind.{Kind}
use Rattle.plain.specs.Rows.{Row, fits}
use Rattle.format.specs.declared.Encoding.{Encoding}
use Rattle.format.specs.declared.Column.{Column}
use Rattle.format.specs.Blocks.{column_of, block_of, column}
use Rattle.format.specs.Sizes.{estimate_of, should_finish, within_limits, accepted}
use Rattle.builder.specs.declared.Builder.{Builder}
use Rattle.std.specs.Prelude.{Ok, Option, Some}
use Rattle.needs.specs.declared.Counted.{Counted}
use Rattle.step.specs.Counting.{next_of}
use Rattle.append.specs.Appending.{Lent, added_to}
use Rattle.builder.specs.Building.{empty, created_in, created, counting, Append, append_of, append_with, appended}
use Rattle.builder.specs.Finishing.{finished_with, finished_in, finished, estimated_as, estimated_in, estimated, asked_as, asked_in, asked}
use Rattle.building_laws.specs.Built.{Given, row_in, rows_in, onward, append_all, verdict_after, verdict, finish_due, Enough}
use Rattle.building_laws.proofs.Verdict.{verdict-told, verdict-only, accepted-snoc}
use Rattle.building_laws.proofs.Same.{never}
use Rattle.building_laws.proofs.OneRowMore.{enough-first}
use Rattle.building_laws.proofs.Records.{next_by}
use Rattle.building_laws.proofs.AreasOfRows.{Kept, kept_same, kept_then, kept-enough, written_by, kept_next}
use Rattle.building_laws.proofs.Finishing.{block_held, size-told, full-told}
use Rattle.building_laws.proofs.BuilderOfRows.{Stands, stands-first, not-wrong, agreed, append-told, stands-next, given-told}

-- ---- all appends
-- an append that is refused stops the calls, and else they go on
onward-told : (f w : Bool) (r : Builder) (a : Lent) (c : Counted) (b : Lent) (rest : Builder → Lent → Append)
    → let d = r.counted in
    onward (append_with r (cond (not f) (added_to (next_of ITEM d) a) (cond (not w) (added_to (next_of LIMIT d) a) (added_to (next_of 0 c) b)))) rest
    ≡ cond (not f) (append_of ITEM r a) (cond (not w) (append_of LIMIT r a) (rest (counting r c) b))
unfolding onward
onward-told false w r a c b rest = refl
onward-told true false r a c b rest = refl
onward-told true true r a c b rest = refl

module _ (k : Kind) (e : Encoding) (target key : ℕ) where
  -- the first of some rows, and then the others
  first_then : (v : Given) (gs : List Given) (done : List Row) (r : Builder) (a : Lent) → Stands k e target key done r a → Enough k e (done ++ (row_in k v ∷ [])) a
      → append_all r a (v ∷ gs)
      ≡ cond (not (fits k (row_in k v))) (append_of ITEM r a)
      (cond (not (within_limits k e (done ++ (row_in k v ∷ [])))) (append_of LIMIT r a)
      (append_all (counting r (next_by k e done (row_in k v) r.counted)) (written_by k e done (row_in k v) r.counted a) gs))
  unfolding append_all
  first_then v gs done r a g one =
      let x : Row = row_in k v in
      ap (λ (o : Append). onward o (λ s b. append_all s b gs)) (given-told k e target key done r a g v ∙ ap (append_with r) (append-told k e target key done r a g x one))
      ∙ onward-told (fits k x) (within_limits k e (done ++ (x ∷ []))) r a (next_by k e done x r.counted) (written_by k e done x r.counted a) (λ s b. append_all s b gs)

  -- what is reached: the number, and if it is 0, a builder and areas that stand so, the areas as long as they were
  record Reached (done rows : List Row) (a : Lent) (o : Append) : Type 0 where
    number : o.answer.number ≡ verdict_after k e done rows
    stands : verdict_after k e done rows ≡ 0 → Stands k e target key (done ++ rows) o.answer.builder o.areas
    kept : verdict_after k e done rows ≡ 0 → Kept a o.areas

  -- one more row in front
  reached-more : (done : List Row) (x : Row) (rows : List Row) (r : Builder) (a b : Lent) (o : Append) (f w : Bool)
      → fits k x ≡ f → within_limits k e (done ++ (x ∷ [])) ≡ w → Kept a b → (f ≡ true → w ≡ true → Reached (done ++ (x ∷ [])) rows b o)
      → Reached done (x ∷ rows) a (cond (not f) (append_of ITEM r a) (cond (not w) (append_of LIMIT r a) o))
  unfolding verdict_after
  reached-more done x rows r a b o false w p q c h =
      record { number = rw p; stands = λ z. absurd (omega (arith, rw p at z)); kept = λ z. absurd (omega (arith, rw p at z)) }
  reached-more done x rows r a b o true false p q c h =
      record { number = rw (p, q); stands = λ z. absurd (omega (arith, rw (p, q) at z)); kept = λ z. absurd (omega (arith, rw (p, q) at z)) }
  reached-more done x rows r a b o true true p q c h =
      let d = h refl refl in
      record {
        number = rw (p, q) d.number;
        stands = λ z. rw (append_assoc done (x ∷ []) rows) at (d.stands (rw (p, q) at z));
        kept = λ z. kept_then a b o.areas c (d.kept (rw (p, q) at z));
      }

  reached : (gs : List Given) (done : List Row) (r : Builder) (a : Lent) → Stands k e target key done r a → Enough k e (done ++ rows_in k gs) a
      → Reached done (rows_in k gs) a (append_all r a gs)
  unfolding append_all verdict_after
  reached [] done r a g h = record { number = refl; stands = λ z. rw append-nil g; kept = λ z. kept_same a }
  reached (v ∷ gs) done r a g h =
      let x : Row = row_in k v in
      let rows : List Row = rows_in k gs in
      let s : Builder = counting r (next_by k e done x r.counted) in
      let b : Lent = written_by k e done x r.counted a in
      let h' : Enough k e (done ++ (x ∷ []) ++ rows) a = subst (λ (l : List Row). Enough k e l a) (sym (append_assoc done (x ∷ []) rows)) h in
      let one : Enough k e (done ++ (x ∷ [])) a = enough-first k e (done ++ (x ∷ [])) rows a h' in
      let long : Kept a b = kept_next k e done x r.counted a g.recorded one in
      subst (λ (o : Append). Reached done (x ∷ rows) a o) (sym (first_then v gs done r a g one))
      (reached-more done x rows r a b (append_all s b gs) (fits k x) (within_limits k e (done ++ (x ∷ []))) refl refl long
      (λ f w. reached gs (done ++ (x ∷ [])) s b (stands-next k e target key done r a g x one f w) (kept-enough k e (done ++ (x ∷ []) ++ rows) a b long h')))

-- ---- rows in two parts
onward-same : (o : Append) (p q : Builder → Lent → Append) → ((s : Builder) (b : Lent) → p s b ≡ q s b) → onward o p ≡ onward o q
unfolding onward
onward-same o p q h = rw (h o.answer.builder o.areas)

onward-twice : (o : Append) (p q : Builder → Lent → Append) → onward o (λ s b. onward (p s b) q) ≡ onward (onward o p) q
unfolding onward
onward-twice o p q = go (eqb o.answer.number 0) refl
  where
    go : (t : Bool) → eqb o.answer.number 0 ≡ t → onward o (λ s b. onward (p s b) q) ≡ onward (onward o p) q
    go true h = simp h
    go false h = simp h

append-parts : (gs hs : List Given) (r : Builder) (a : Lent) → append_all r a (gs ++ hs) ≡ onward (append_all r a gs) (λ s b. append_all s b hs)
unfolding append_all onward
append-parts [] hs r a = refl
append-parts (g ∷ gs) hs r a =
    let o : Append = appended r a g.present g.value g.text in
    onward-same o (λ s b. append_all s b (gs ++ hs)) (λ s b. onward (append_all s b gs) (λ s b. append_all s b hs)) (λ s b. append-parts gs hs s b)
    ∙ onward-twice o (λ s b. append_all s b gs) (λ s b. append_all s b hs)

onward-zero : (o : Append) (rest : Builder → Lent → Append) → o.answer.number ≡ 0 → onward o rest ≡ rest o.answer.builder o.areas
unfolding onward
onward-zero o rest h = simp (eq-eqb o.answer.number 0 h)

-- a refused row, whatever follows
first-kept : (k : Kind) (e : Encoding) (target key : ℕ) (done : List Row) (r : Builder) (a : Lent) → Stands k e target key done r a → (v : Given) (more : List Given)
    → Enough k e (done ++ (row_in k v ∷ [])) a → (fits k (row_in k v) ≡ true → within_limits k e (done ++ (row_in k v ∷ [])) ≡ true → ⊥)
    → ((append_all r a (v ∷ more)).answer.builder ≡ r) × ((append_all r a (v ∷ more)).areas ≡ a)
first-kept k e target key done r a g v more one bad =
    rw (first_then k e target key v more done r a g one) (go (fits k (row_in k v)) (within_limits k e (done ++ (row_in k v ∷ []))) refl refl)
  where
    go : (f w : Bool) → fits k (row_in k v) ≡ f → within_limits k e (done ++ (row_in k v ∷ [])) ≡ w
        → let s = counting r (next_by k e done (row_in k v) r.counted) in
        let o = cond (not f) (append_of ITEM r a) (cond (not w) (append_of LIMIT r a) (append_all s (written_by k e done (row_in k v) r.counted a) more)) in
        (o.answer.builder ≡ r) × (o.areas ≡ a)
    go false w p q = (refl, refl)
    go true false p q = (refl, refl)
    go true true p q = absurd (bad p q)

-- ---- finish, the estimate and should_finish of a builder that stands well
module _ (k : Kind) (e : Encoding) (target key : ℕ) (rows : List Row) (r : Builder) (a : Lent) (g : Stands k e target key rows r a) where
  pub finish-told : Enough k e rows a → (out : List ℕ) → finished r a out ≡ finished_with r (block_of k e rows) out
  unfolding finished finished_in
  finish-told h out =
      rw (g.column, agreed k e target key rows r a g h, block_held k rows r.counted a e g.recorded g.holds)

  pub estimate-told : estimated r ≡ estimated_as 0 (estimate_of k e rows) r
  unfolding estimated estimated_in
  estimate-told = rw (g.column, not-wrong k e target key rows r a g, size-told k rows r.counted e g.recorded)

  pub asked-told : (next : Given) → asked r next.present (length next.text) ≡ asked_as 0 (should_finish k e target key rows (row_in k next)) r
  unfolding asked asked_in
  asked-told next = rw (g.column, not-wrong k e target key rows r a g, full-told k rows r.counted r.target r.keytarget next e g.recorded, g.aim, g.key_aim)

-- the block from the room's start on, and what lies behind it
pub finish-due : (r : Builder) (block out : List ℕ) → finished_with r block out ≡ finish_due r block out
unfolding finished_with finish_due over
finish-due r block out = rw zero-add

-- ---- from the creation on: rows appended one after the other, with areas that are long enough for all of them
-- a pair of a kind and an encoding is given a builder
pub creation : (kind encoding width target key : ℕ) (k : Kind) (e : Encoding) → column_of kind encoding width ≡ Some (column k e)
    → created kind encoding width target key ≡ Ok (empty kind encoding width target key)
unfolding created created_in
creation kind encoding width target key k e c = rw c

pub created-told : (c : Option Column) (s r : Builder) (k : Kind) (e : Encoding) → c ≡ Some (column k e) → created_in c s ≡ Ok r → s ≡ r
unfolding created_in
created-told c s r k e p q = let z : Ok s ≡ Ok r = rw p at q in cc

module _ (kind encoding width target key : ℕ) (k : Kind) (e : Encoding) (column : column_of kind encoding width ≡ Some (column k e))
    (r : Builder) (new : created kind encoding width target key ≡ Ok r) (gs : List Given) (a : Lent) (room : Enough k e (rows_in k gs) a) where
  first : empty kind encoding width target key ≡ r
  unfolding created
  first = created-told (column_of kind encoding width) (empty kind encoding width target key) r k e column new

  all : Reached k e target key [] (rows_in k gs) a (append_all r a gs)
  all =
      reached k e target key gs [] r a
      (subst (λ (s : Builder). Stands k e target key [] s a) first (stands-first k e kind encoding width target key column a)) room

  -- The answer is the verdict on the list, which is 0 exactly if the list is accepted.
  pub accepted-exactly : ((append_all r a gs).answer.number ≡ verdict k e (rows_in k gs)) × (accepted k e (rows_in k gs) ≡ eqb (append_all r a gs).answer.number 0)
  unfolding verdict
  accepted-exactly = (all.number, verdict-told k e (rows_in k gs) ∙ ap (λ (n : ℕ). eqb n 0) (sym all.number))

  -- Appends are refused only as 2 or 3: never as 9, since state and areas agree, and never as 4, since the areas are long enough.
  pub never-nine : let n = (append_all r a gs).answer.number in (n ≡ 0) ⊎ ((n ≡ ITEM) ⊎ (n ≡ LIMIT))
  never-nine = rw accepted-exactly.0 (verdict-only k e (rows_in k gs))

  -- ---- if all were accepted
  module _ (good : accepted k e (rows_in k gs) ≡ true) where
    zero-told : verdict_after k e [] (rows_in k gs) ≡ 0
    unfolding verdict
    zero-told = eqb-true (verdict_after k e [] (rows_in k gs)) 0 (sym (verdict-told k e (rows_in k gs)) ∙ good)

    there : Stands k e target key (rows_in k gs) (append_all r a gs).answer.builder (append_all r a gs).areas
    there = all.stands zero-told

    -- Finish writes exactly the block of the list into any room that holds it, nothing past it, and answers its length; a shorter room is refused as 4. Either
    -- way, as with the two below, the builder handed back is the one given.
    pub finish-gives-the-block : (out : List ℕ)
        → finished (append_all r a gs).answer.builder (append_all r a gs).areas out
        ≡ finish_due (append_all r a gs).answer.builder (block_of k e (rows_in k gs)) out
    finish-gives-the-block out =
        finish-told k e target key (rows_in k gs) (append_all r a gs).answer.builder (append_all r a gs).areas there
        (kept-enough k e (rows_in k gs) a (append_all r a gs).areas (all.kept zero-told) room) out
        ∙ finish-due (append_all r a gs).answer.builder (block_of k e (rows_in k gs)) out

    -- The estimated size is that of the list.
    pub estimate-of-the-list :
        estimated (append_all r a gs).answer.builder ≡ estimated_as 0 (estimate_of k e (rows_in k gs)) (append_all r a gs).answer.builder
    estimate-of-the-list = estimate-told k e target key (rows_in k gs) (append_all r a gs).answer.builder (append_all r a gs).areas there

    -- Whether to finish before a next row is what the list and that row say.
    pub should-finish-of-the-list : (next : Given)
        → asked (append_all r a gs).answer.builder next.present (length next.text)
        ≡ asked_as 0 (should_finish k e target key (rows_in k gs) (row_in k next)) (append_all r a gs).answer.builder
    should-finish-of-the-list next = asked-told k e target key (rows_in k gs) (append_all r a gs).answer.builder (append_all r a gs).areas there next

    -- A row that is then refused leaves the builder and the areas as the rows before it left them, whatever would follow.
    pub refusal-keeps-the-rows : (v : Given) (more : List Given) → Enough k e (rows_in k (gs ++ (v ∷ more))) a → accepted k e (rows_in k (gs ++ (v ∷ []))) ≡ false
        → ((append_all r a (gs ++ (v ∷ more))).answer.builder ≡ (append_all r a gs).answer.builder) × ((append_all r a (gs ++ (v ∷ more))).areas ≡ (append_all r a gs).areas)
    refusal-keeps-the-rows v more h bad =
        rw (append-parts gs (v ∷ more) r a, onward-zero (append_all r a gs) (λ s b. append_all s b (v ∷ more)) (all.number ∙ zero-told))
        (first-kept k e target key (rows_in k gs) (append_all r a gs).answer.builder (append_all r a gs).areas there v more one
        (λ f w. never (sym bad ∙ ap (accepted k e) (map-append (row_in k) gs (v ∷ [])) ∙ accepted-snoc k e (rows_in k gs) (row_in k v) good f w)))
      where
        whole : Enough k e (rows_in k gs ++ (row_in k v ∷ rows_in k more)) a
        whole = subst (λ (l : List Row). Enough k e l a) (map-append (row_in k) gs (v ∷ more)) h

        one : Enough k e (rows_in k gs ++ (row_in k v ∷ [])) (append_all r a gs).areas
        one =
            kept-enough k e (rows_in k gs ++ (row_in k v ∷ [])) a (append_all r a gs).areas (all.kept zero-told)
            (enough-first k e (rows_in k gs ++ (row_in k v ∷ [])) (rows_in k more) a
            (subst (λ (l : List Row). Enough k e l a) (sym (append_assoc (rows_in k gs) (row_in k v ∷ []) (rows_in k more))) whole))
