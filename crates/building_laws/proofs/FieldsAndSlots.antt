-- What one row more does to each field of a record and to each lent area: over a list of stored items, and over runs. Assumes nothing.
use Prim.Native.Nat.{ℕ, zero, suc, ◌+◌, ◌/◌, ◌≤◌, ◌<◌}
use native.Mathlib.Omega.{arith}
use mathlib.Core.Bool.{Bool, true, false, cond, not, ◌&&◌}
use mathlib.Core.List.{List, [], ◌∷◌, ◌++◌, map, map-append}
use mathlib.Core.Logic.{⊎_elim}
use mathlib.Core.Path.{◌≡◌, sym, ap, ◌∙◌}
use lib.IntN.{ℤ}
use lib.ListN.{length, take, set, length-append, length-map}
use Rattle.area.specs.Area.{over}
use Rattle.area.proofs.Laws.{lt-or-ge}
use Rattle.varint.specs.Varint.{spell_within, spelling}
use Rattle.varint.proofs.Spelling.{spell_last, spell-more, spell-some, size1}
use Rattle.plain.specs.Rows.{Row, int}
use Rattle.plain.specs.Plain.{joined}
use Rattle.rle.specs.RunLength.{Run, run, counts_of}
use Rattle.slots.specs.Slots.{counts_with}
use Rattle.step.specs.Counting.{growth}
use Rattle.building_laws.proofs.Lists.{length-snoc, joined_snoc, length-joined-snoc, take-stored, take-bumped, take-over}
use lib.Seq.{take-suc-set}
use Rattle.building_laws.proofs.Runs.{last_run, last-run, Grows}

-- ---- a larger count is spelled in no fewer bytes
spell-more-least : (k u v : ℕ) → u ≤ v → length (spell_within k u) ≤ length (spell_within k v)
unfolding spell_within
spell-more-least zero u v h = omega arith
spell-more-least (suc k) u v h = ⊎_elim
    (λ (a : u < 128). rw (spell_last k u a) (omega (arith, spell-some k v)))
    (λ (a : 128 ≤ u).
    let b = spell-more-least k (u / 128) (v / 128) (omega arith) in
    rw (spell-more k u a, spell-more k v (omega arith)) (omega arith))
    (lt-or-ge u 128)

pub growth-adds : (m : ℕ) → length (spelling m) + growth m ≡ length (spelling (m + 1))
unfolding growth spelling
growth-adds m = let h = spell-more-least 5 m (m + 1) (omega arith) in omega arith

-- ---- runs
pub counts-snoc : (rs : List Run) (r : Run) → length (counts_of (rs ++ (r ∷ []))) ≡ length (counts_of rs) + length (spelling r.count)
unfolding counts_of
counts-snoc rs r = length-joined-snoc (λ (x : Run). spelling x.count) rs r

pub runs-field : (c joins : Bool) (z : Row) (rs rs' : List Run) (n : ℕ) → Grows c joins z rs rs' → n ≡ length rs → cond (c && not joins) (n + 1) n ≡ length rs'
runs-field true true z rs rs' n g e =
    rw g.after (e ∙ rw g.before (length-snoc g.init g.last ∙ sym (length-snoc g.init (run g.last.row (g.last.count + 1)))))
runs-field true false z rs rs' n g e = rw g (omega (arith, length-snoc rs (run z 1)))
runs-field false joins z rs rs' n g e = rw g e

pub last-field : (c joins : Bool) (z : Row) (rs rs' : List Run) (m : ℕ) → Grows c joins z rs rs' → m ≡ (last_run rs).count → cond c (cond joins (m + 1) 1) m ≡ (last_run rs').count
last-field true true z rs rs' m g e =
    let a : m ≡ g.last.count = e ∙ ap (λ (l : List Run). (last_run l).count) g.before ∙ ap (λ (r : Run). r.count) (last-run g.init g.last) in
    rw (g.after, last-run g.init (run g.last.row (g.last.count + 1))) (ap (λ (i : ℕ). i + 1) a)
last-field true false z rs rs' m g e = rw (g, last-run rs (run z 1))
last-field false joins z rs rs' m g e = rw g e

pub counts-field : (c joins : Bool) (z : Row) (rs rs' : List Run) (n m : ℕ) → Grows c joins z rs rs' → n ≡ length (counts_of rs) → m ≡ (last_run rs).count
    → cond c (n + cond joins (growth m) 1) n ≡ length (counts_of rs')
counts-field true true z rs rs' n m g e d =
    let a : m ≡ g.last.count = d ∙ ap (λ (l : List Run). (last_run l).count) g.before ∙ ap (λ (r : Run). r.count) (last-run g.init g.last) in
    let b : n ≡ length (counts_of g.init) + length (spelling g.last.count) = e ∙ rw g.before (counts-snoc g.init g.last) in
    let h = growth-adds g.last.count in
    let s = counts-snoc g.init (run g.last.row (g.last.count + 1)) in
    rw (a, g.after) (omega arith)
counts-field true false z rs rs' n m g e d =
    let h = size1 1 (omega arith) in
    let s = counts-snoc rs (run z 1) in
    rw g (omega arith)
counts-field false joins z rs rs' n m g e d = rw g e

-- the slots of the counts, and those of the keys
pub counts-slots : (c joins : Bool) (z : Row) (rs rs' : List Run) (n m : ℕ) (cs : List ℕ) → Grows c joins z rs rs' → n ≡ length rs → m ≡ (last_run rs).count
    → length rs' ≤ length cs → take (length rs) cs ≡ map (λ r. r.count) rs
    → take (length rs') (cond c (counts_with n m joins cs) cs) ≡ map (λ r. r.count) rs'
unfolding counts_with
counts-slots true true z rs rs' n m cs g e d h q =
    let a : m ≡ g.last.count = d ∙ ap (λ (l : List Run). (last_run l).count) g.before ∙ ap (λ (r : Run). r.count) (last-run g.init g.last) in
    let f : Run → ℕ = λ r. r.count in
    let is : List ℕ = map f g.init in
    let p : map f rs ≡ is ++ (g.last.count ∷ []) = rw g.before (map-append f g.init (g.last ∷ [])) in
    let p' : map f rs' ≡ is ++ ((g.last.count + 1) ∷ []) = rw g.after (map-append f g.init (run g.last.row (g.last.count + 1) ∷ [])) in
    let l : length rs ≡ length (is ++ (g.last.count ∷ [])) = sym (length-map rs f) ∙ ap length p in
    let l' : length rs' ≡ length (is ++ ((g.last.count + 1) ∷ [])) = sym (length-map rs' f) ∙ ap length p' in
    let s = length-snoc is g.last.count in
    let s' = length-snoc is (g.last.count + 1) in
    rw (p', l', a) (take-bumped cs is n g.last.count (g.last.count + 1) (e ∙ l) (omega arith) (rw (p, l) at q))
counts-slots true false z rs rs' n m cs g e d h q =
    let f : Run → ℕ = λ r. r.count in
    let p : map f rs' ≡ map f rs ++ (1 ∷ []) = rw g (map-append f rs (run z 1 ∷ [])) in
    let l : length rs' ≡ length (map f rs ++ (1 ∷ [])) = sym (length-map rs' f) ∙ ap length p in
    let k : length (map f rs) ≡ length rs = length-map rs f in
    let s = length-snoc (map f rs) 1 in
    rw (p, l) (take-stored cs (map f rs) n 1 (omega arith) (omega arith) (rw k q))
counts-slots false joins z rs rs' n m cs g e d h q = rw g q

pub keys-slots : (joins : Bool) (z : Row) (rs rs' : List Run) (n : ℕ) (ks : List ℤ) (key : ℤ) → Grows true joins z rs rs' → n ≡ length rs
    → length rs' ≤ length ks → z ≡ int key → map (λ r. r.row) rs ≡ map int (take (length rs) ks)
    → map (λ r. r.row) rs' ≡ map int (take (length rs') (cond (not joins) (set ks n key) ks))
keys-slots true z rs rs' n ks key g e h k q =
    let f : Run → Row = λ r. r.row in
    let p : map f rs ≡ map f g.init ++ (g.last.row ∷ []) = rw g.before (map-append f g.init (g.last ∷ [])) in
    let p' : map f rs' ≡ map f g.init ++ (g.last.row ∷ []) = rw g.after (map-append f g.init (run g.last.row (g.last.count + 1) ∷ [])) in
    let l : length rs ≡ length rs' = sym (length-map rs f) ∙ ap length (p ∙ sym p') ∙ length-map rs' f in
    p' ∙ sym p ∙ q ∙ ap (λ (i : ℕ). map int (take i ks)) l
keys-slots false z rs rs' n ks key g e h k q =
    let f : Run → Row = λ r. r.row in
    let p : map f rs' ≡ map f rs ++ (z ∷ []) = rw g (map-append f rs (run z 1 ∷ [])) in
    let l : length rs' ≡ length rs + 1 = ap length g ∙ length-snoc rs (run z 1) in
    let m : length rs' ≡ suc n = omega arith in
    let t : take (length rs') (set ks n key) ≡ take (length rs) ks ++ (key ∷ [])
    = rw m (take-suc-set ks n key (omega arith) ∙ ap (λ (i : ℕ). take i ks ++ (key ∷ [])) e) in
    p ∙ rw (q, k, t) (sym (map-append int (take (length rs) ks) (key ∷ [])))

-- ---- stored items
module _ (x : Row) (s s' : List Row) where
  pub bytes-field : (item : Bool) (f : Row → List ℕ) (n : ℕ) → s' ≡ cond item (s ++ (x ∷ [])) s → n ≡ length (joined f s)
      → cond item (n + length (f x)) n ≡ length (joined f s')
  bytes-field true f n g e = rw g (omega (arith, length-joined-snoc f s x))
  bytes-field false f n g e = rw g e

  pub item-slots : (item : Bool) (f : Row → List ℕ) (n : ℕ) (l : List ℕ) → s' ≡ cond item (s ++ (x ∷ [])) s → n ≡ length (joined f s)
      → length (joined f s') ≤ length l → take (length (joined f s)) l ≡ joined f s
      → take (length (joined f s')) (cond item (over l n (f x)) l) ≡ joined f s'
  item-slots true f n l g e h q =
      let j : joined f s' ≡ joined f s ++ f x = rw g (joined_snoc f s x) in
      let m = length-append (joined f s) (f x) in
      let i = ap length j in
      rw j (take-over l (joined f s) (f x) n e (omega arith) q)
  item-slots false f n l g e h q = rw g q

-- the slots that stand beside items, one each
pub beside-slots : (item : Bool) (vs vs' : List ℕ) (v n : ℕ) (l : List ℕ) → vs' ≡ cond item (vs ++ (v ∷ [])) vs → n ≡ length vs
    → length vs' ≤ length l → take (length vs) l ≡ vs → take (length vs') (cond item (set l n v) l) ≡ vs'
beside-slots true vs vs' v n l g e h q = rw g (take-stored l vs n v e (let m = length-snoc vs v in let i = ap length g in omega arith) q)
beside-slots false vs vs' v n l g e h q = rw g q
