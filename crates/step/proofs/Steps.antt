-- What an append finds, on each way through the code, and what a step that is found says. Assumes nothing.
use Prim.Native.Nat.{ℕ, zero, suc, ◌+◌, ◌-◌, ◌≤◌, ◌<◌}
use native.Mathlib.Omega.{arith}
use mathlib.Core.Path.{◌≡◌, refl, sym, ap, subst, ◌∙◌}
use mathlib.Core.Bool.{Bool, true, false, cond, not, ◌&&◌}
use mathlib.Core.List.{List, []}
use lib.Dec.{ltb, eqb}
use lib.IntN.{ℤ, pos, negsuc, ◌+ℤ◌}
use lib.ListN.{get_or}
use mir.Syntax.{Width, w32}
use mir.Val.{of_z, to_z, SFits}
use mir.Facts.{to_z-of_z, to_z_pos}
use borrow.Author.Tests.{lt-ltb, le-ltb, ltb-true, eq-eqb, ne_eqb}
use Rattle.encode.specs.declared.Kind.{Kind}
use Rattle.encode.specs.declared.Kind.TheVariants.{Fixed, Char, Blob}
use Rattle.plain.specs.Rows.{Row, null, int, bytes, value_of, row_of, same_int, same}
use Rattle.plain.specs.Plain.{places}
use Rattle.dict.specs.Dictionary.{null_key, entry_key}
use Rattle.format.specs.declared.Encoding.{Encoding}
use Rattle.format.specs.declared.Encoding.TheVariants.{Plain, Nullable, RunLength, RunLengthNullable, Dictionary}
use Rattle.std.specs.Prelude.{Option, Some, None}
use Rattle.needs.specs.declared.Counted.{Counted}
use Rattle.step.specs.declared.Step.{Step}
use Rattle.lookup.specs.Held.{Held, held, held_row, field_wrong, look_from, look_up}
use Rattle.needs.specs.Needs.{keyed}
use Rattle.step.specs.Steps.{adds, run_open, row_before, joins_run, run_step, joins_key, entry_step, key_step, step_of}
use Rattle.lookup.proofs.There.{wrong-apart}
use Rattle.needs.specs.Tests.{rows_by, runs_by}
use Rattle.encode.proofs.Bools.{clash as apart, and_then, and-not}
use Rattle.limits.specs.Limits.{MOST_ENTRIES, MOST_COUNT}

-- ---- the last run
pub some : (n : ℕ) → (n ≡ 0 → ⊥) → 0 < n
some zero h = absurd (h refl)
some (suc n) h = omega arith

pub below : (n : ℕ) → (n ≡ 0 → ⊥) → n - 1 < n
below n h = let s = some n h in omega arith

module _ (r : Counted) where
  pub open_none : r.runs ≡ 0 → false ≡ run_open r
  unfolding run_open
  open_none h = and-not {x = false} _ (sym (le-ltb 0 r.runs (omega (arith, h)))) refl

  pub open-some : (r.runs ≡ 0 → ⊥) → ltb r.last MOST_COUNT ≡ run_open r
  unfolding run_open
  open-some h = and_then {x = true} _ (sym (lt-ltb 0 r.runs (some r.runs h))) refl

  pub opened : {x : Bool} → x ≡ run_open r → x ≡ true → (0 < r.runs) × (r.last < MOST_COUNT)
  unfolding run_open
  opened q t = go (ltb 0 r.runs) (ltb r.last MOST_COUNT) refl refl (sym q ∙ t)
    where
      go : (a b : Bool) → ltb 0 r.runs ≡ a → ltb r.last MOST_COUNT ≡ b → (a && b) ≡ true → (0 < r.runs) × (r.last < MOST_COUNT)
      go true true p q h = (ltb-true 0 r.runs p, ltb-true r.last MOST_COUNT q)
      go true false p q h = apart (sym h)
      go false b p q h = apart (sym h)

-- a signed number that is passed on is the same
pub through : {A : Type 0} (f : ℤ → A) {w : Width} (v : ℤ) {x : A} → SFits w v → x ≡ f (to_z w (of_z w v)) → x ≡ f v
through f v h q = q ∙ ap f (to_z-of_z h)

-- ---- keys
module _ (r : Counted) (keys : List ℤ) (key : ℤ) {x : Bool} (q : x ≡ run_open r) where
  pub joins-not : x ≡ false → false ≡ joins_key r keys key
  unfolding joins_key
  joins-not t = and-not _ q t

  pub joins-as : x ≡ true → {y : Bool} → y ≡ same_int key (get_or keys (r.runs - 1) (pos 0)) → y ≡ joins_key r keys key
  unfolding joins_key
  joins-as t {y} h = h ∙ and_then _ q t

-- the key of an entry is an i32: its first place is the lowest number but one
key_below : (i : ℕ) → i ≤ MOST_ENTRIES → entry_key i ≡ negsuc (2147483646 - i)
unfolding entry_key
key_below i h = ap (λ (t : Bool). cond t (negsuc (2147483647 - suc i)) (pos (i - 2147483647))) (lt-ltb i 2147483647 (omega arith)) ∙ ap negsuc (omega arith)

pub key_fits : (i : ℕ) → i ≤ MOST_ENTRIES → SFits w32 (entry_key i)
key_fits i h = subst (λ (z : ℤ). SFits w32 z) (sym (key_below i h)) (record { sfits = omega arith })

pub key-sum : (i : ℕ) → i ≤ MOST_ENTRIES → negsuc 2147483646 +ℤ to_z w32 i ≡ entry_key i
unfolding entry_key
key-sum i h = ap (λ (z : ℤ). negsuc 2147483646 +ℤ z) (to_z_pos w32 {n = i} (omega arith))

pub key-bits : (i : ℕ) → i ≤ MOST_ENTRIES → to_z w32 (of_z w32 (negsuc 2147483646 +ℤ to_z w32 i)) ≡ entry_key i
key-bits i h = ap (λ (z : ℤ). to_z w32 (of_z w32 z)) (key-sum i h) ∙ to_z-of_z (key_fits i h)

pub key-sum-fits : (i : ℕ) → i ≤ MOST_ENTRIES → SFits w32 (negsuc 2147483646 +ℤ to_z w32 i)
key-sum-fits i h = subst (λ (z : ℤ). SFits w32 z) (sym (key-sum i h)) (key_fits i h)

module _ (r : Counted) (keys : List ℤ) {l : Option ℕ} where
  pub entry-wrong : l ≡ None → None ≡ entry_step r keys l
  unfolding entry_step
  entry-wrong q = ap (entry_step r keys) (sym q)

  pub entry-as :
      (i : ℕ) → i ≤ MOST_ENTRIES → l ≡ Some i → {key : ℤ} → key ≡ entry_key i → {y : Bool} → y ≡ joins_key r keys (to_z w32 (of_z w32 key))
      → adds (eqb i r.entries) y (to_z w32 (of_z w32 key)) ≡ entry_step r keys l
  unfolding entry_step
  entry-as i n q {key} k {y} h =
      let b : to_z w32 (of_z w32 key) ≡ entry_key i = ap (λ (z : ℤ). to_z w32 (of_z w32 z)) k ∙ to_z-of_z (key_fits i n) in
      ap (λ (x : Bool). adds (eqb i r.entries) x (to_z w32 (of_z w32 key))) h
      ∙ ap (λ (z : ℤ). adds (eqb i r.entries) (joins_key r keys z) z) b
      ∙ ap (entry_step r keys) (sym q)

-- ---- the last item
-- an item as it was given is not null
held-not-null : (k : Kind) (h : Held) (i : ℕ) → same null (held_row k h i) ≡ false
unfolding held_row same
held-not-null (Fixed p) h i = refl
held-not-null (Char w) h i = refl
held-not-null (Blob text) h i = refl

row-null : (k : Kind) (present : Bool) (v : ℤ) (bs : List ℕ) → same (row_of k present v bs) null ≡ not present
unfolding row_of value_of same
row-null k false v bs = refl
row-null (Fixed p) true v bs = refl
row-null (Char w) true v bs = refl
row-null (Blob text) true v bs = refl

module _ (k : Kind) (r : Counted) (h : Held) (present : Bool) (v : ℤ) (bs : List ℕ) {x : Bool} (q : x ≡ run_open r) where
  pub joins-closed : x ≡ false → false ≡ joins_run k r h (row_of k present v bs)
  unfolding joins_run
  joins-closed t = and-not _ q t

  module _ (t : x ≡ true) where
    pub joins-null : (r.null ≡ 0 → ⊥) → not present ≡ joins_run k r h (row_of k present v bs)
    unfolding joins_run row_before
    joins-null n =
        sym (row-null k present v bs)
        ∙ ap (λ (b : Bool). same (row_of k present v bs) (cond b (held_row k h (r.runs - 1)) null)) (sym (ne_eqb r.null 0 n))
        ∙ and_then _ q t

    module _ (n : r.null ≡ 0) where
      before-item : held_row k h (r.runs - 1) ≡ row_before k r h
      unfolding row_before
      before-item = ap (λ (b : Bool). cond b (held_row k h (r.runs - 1)) null) (sym (eq-eqb r.null 0 n))

      pub joins-item : present ≡ true → {y : Bool} → y ≡ same (value_of k v bs) (held_row k h (r.runs - 1)) → y ≡ joins_run k r h (row_of k present v bs)
      unfolding joins_run row_of
      joins-item p e =
          e
          ∙ ap (λ (b : Bool). same (cond b (value_of k v bs) null) (held_row k h (r.runs - 1))) (sym p)
          ∙ ap (same (row_of k present v bs)) before-item
          ∙ and_then _ q t

      pub joins-none : present ≡ false → false ≡ joins_run k r h (row_of k present v bs)
      unfolding joins_run row_of
      joins-none p =
          sym (held-not-null k h (r.runs - 1))
          ∙ ap (λ (b : Bool). same (cond b (value_of k v bs) null) (held_row k h (r.runs - 1))) (sym p)
          ∙ ap (same (row_of k present v bs)) before-item
          ∙ and_then _ q t

module _ (k : Kind) (r : Counted) (is es ls : List ℕ) (row : Row) where
  pub run-wrong : 0 < r.runs → {x : Bool} → x ≡ field_wrong k r.runs r.bytes (held [] es ls) (r.runs - 1) → x ≡ true → None ≡ run_step k r (held is es ls) row
  unfolding run_step
  run-wrong s q t =
      ap (λ (b : Bool). cond b None (adds (not (joins_run k r (held is es ls) row)) (joins_run k r (held is es ls) row) (pos 0)))
      (sym t ∙ q ∙ wrong-apart k r.runs r.bytes is es ls (r.runs - 1) ∙ and_then {x = true} _ (sym (lt-ltb 0 r.runs s)) refl)

  run-right :
      (ltb 0 r.runs && field_wrong k r.runs r.bytes (held is es ls) (r.runs - 1)) ≡ false
      → {j : Bool} → j ≡ joins_run k r (held is es ls) row → adds (not j) j (pos 0) ≡ run_step k r (held is es ls) row
  unfolding run_step
  run-right w q =
      ap (λ (b : Bool). adds (not b) b (pos 0)) q
      ∙ ap (λ (b : Bool). cond b None (adds (not (joins_run k r (held is es ls) row)) (joins_run k r (held is es ls) row) (pos 0))) (sym w)

  pub run-first : r.runs ≡ 0 → adds true false (pos 0) ≡ run_step k r (held is es ls) row
  unfolding joins_run
  run-first z =
      run-right (sym (and-not {x = false} _ (sym (le-ltb 0 r.runs (omega (arith, z)))) refl)) (and-not {x = false} _ (open_none r z) refl)

  pub field-right :
      {x : Bool} → x ≡ field_wrong k r.runs r.bytes (held [] es ls) (r.runs - 1) → x ≡ false
      → field_wrong k r.runs r.bytes (held is es ls) (r.runs - 1) ≡ false
  field-right q t = sym (wrong-apart k r.runs r.bytes is es ls (r.runs - 1)) ∙ sym q ∙ t

  pub run-next :
      0 < r.runs → {x : Bool} → x ≡ field_wrong k r.runs r.bytes (held [] es ls) (r.runs - 1) → x ≡ false
      → {j : Bool} → j ≡ joins_run k r (held is es ls) row → adds (not j) j (pos 0) ≡ run_step k r (held is es ls) row
  run-next s q t g = run-right (sym (and_then {x = true} _ (sym (lt-ltb 0 r.runs s)) refl) ∙ field-right q t) g

-- ---- the entries
module _ (k : Kind) (n len : ℕ) (h : Held) (row : Row) where
  from-bound : (m i : ℕ) → i + m ≡ n → (j : ℕ) → look_from k n len h row (places m i) ≡ Some j → j ≤ n
  unfolding look_from places
  from-bound zero i e j q = entry-same q
    where
      entry-same : Some n ≡ Some j → j ≤ n
      entry-same p = let z : n ≡ j = cc in omega arith
  from-bound (suc m) i e j q = go (field_wrong k n len h i) (same row (held_row k h i)) q (from-bound m (suc i) (omega arith) j)
    where
      go : (a b : Bool) → cond a None (cond b (Some i) (look_from k n len h row (places m (suc i)))) ≡ Some j → (look_from k n len h row (places m (suc i)) ≡ Some j → j ≤ n) → j ≤ n
      go true b p rest = let z : ◌≡◌ {A = ℕ} 0 1 = cc in absurd (omega arith)
      go false true p rest = let z : i ≡ j = cc in omega arith
      go false false p rest = rest p

  look-bound : {x : Option ℕ} → x ≡ look_up k n len h row → (i : ℕ) → x ≡ Some i → i ≤ n
  unfolding look_up
  look-bound q i p = from-bound n 0 (omega arith) i (sym q ∙ p)

  pub look-few : n ≤ MOST_ENTRIES → {x : Option ℕ} → x ≡ look_up k n len h row → (i : ℕ) → x ≡ Some i → i ≤ MOST_ENTRIES
  look-few m q i p = let b = look-bound q i p in omega arith

module _ (k : Kind) (r : Counted) (h : Held) (keys : List ℤ) (present : Bool) (v : ℤ) (bs : List ℕ) where
  pub key-none : present ≡ false → {y : Bool} → y ≡ joins_key r keys (negsuc 2147483647) → adds false y (negsuc 2147483647) ≡ key_step k r h keys (row_of k present v bs)
  unfolding row_of key_step null_key
  key-none p q =
      ap (λ (b : Bool). adds false b null_key) q ∙ ap (λ (b : Bool). key_step k r h keys (cond b (value_of k v bs) null)) (sym p)

  value-step : entry_step r keys (look_up k r.entries r.bytes h (value_of k v bs)) ≡ key_step k r h keys (value_of k v bs)
  unfolding key_step value_of
  value-step = go k
    where
      go : (k : Kind) → entry_step r keys (look_up k r.entries r.bytes h (value_of k v bs)) ≡ key_step k r h keys (value_of k v bs)
      go (Fixed p) = refl
      go (Char w) = refl
      go (Blob text) = refl

  pub key-some :
      present ≡ true → {l : Option ℕ} → l ≡ look_up k r.entries r.bytes h (value_of k v bs) → {s : Option Step} → s ≡ entry_step r keys l
      → s ≡ key_step k r h keys (row_of k present v bs)
  unfolding row_of
  key-some p q e =
      e ∙ ap (entry_step r keys) q ∙ value-step ∙ ap (λ (b : Bool). key_step k r h keys (cond b (value_of k v bs) null)) (sym p)

-- ---- every encoding
module _ (k : Kind) (r : Counted) (h : Held) (keys : List ℤ) (row : Row) where
  pub step-rows : (f : Bool) → adds true false (pos 0) ≡ step_of k (rows_by f) r h keys row
  unfolding step_of
  step-rows true = refl
  step-rows false = refl

  pub step-runs : (f : Bool) {s : Option Step} → s ≡ run_step k r h row → s ≡ step_of k (runs_by f) r h keys row
  unfolding step_of
  step-runs true p = p
  step-runs false p = p

  pub step-keys : {s : Option Step} → s ≡ key_step k r h keys row → s ≡ step_of k Dictionary r h keys row
  unfolding step_of
  step-keys p = p

-- ---- what a step that is found says
abbrev in_step : {A : Type 0} → (Step → A) → A → Option Step → A
in_step f x (Some s) = f s
in_step f x None = x

pub adds_same : {a b c d : Bool} {x y : ℤ} → adds a b x ≡ adds c d y → (a ≡ c) × (b ≡ d) × (x ≡ y)
adds_same {a} {b} {c} {d} {x} {y} q =
    (ap (in_step (λ (s : Step). s.stored) a) q, ap (in_step (λ (s : Step). s.joins) b) q, ap (in_step (λ (s : Step). s.key) x) q)

step-open : (r : Counted) (b : Bool) → (run_open r && b) ≡ true → (0 < r.runs) × (r.last < MOST_COUNT)
step-open r b h = go (run_open r) b refl h
  where
    go : (a b : Bool) → run_open r ≡ a → (a && b) ≡ true → (0 < r.runs) × (r.last < MOST_COUNT)
    go true b q p = opened r (sym q) refl
    go false b q p = apart (sym p)

run-says :
    (k : Kind) (r : Counted) (h : Held) (row : Row) {item joins : Bool} {key : ℤ} → adds item joins key ≡ run_step k r h row
    → (item ≡ not joins) × (joins ≡ true → (0 < r.runs) × (r.last < MOST_COUNT))
unfolding run_step joins_run
run-says k r h row {item} {joins} {key} q = go (ltb 0 r.runs && field_wrong k r.runs r.bytes h (r.runs - 1)) q
  where
    go : (b : Bool) → adds item joins key ≡ cond b None (adds (not (joins_run k r h row)) (joins_run k r h row) (pos 0)) → (item ≡ not joins) × (joins ≡ true → (0 < r.runs) × (r.last < MOST_COUNT))
    go true p = let z : ◌≡◌ {A = ℕ} 0 1 = cc in absurd (omega arith)
    go false p =
        let e = adds_same p in
        (e.0 ∙ ap not (sym e.1), λ t. step-open r _ (sym e.1 ∙ t))

entry-says :
    (r : Counted) (keys : List ℤ) (l : Option ℕ) {item joins : Bool} {key : ℤ} → adds item joins key ≡ entry_step r keys l
    → joins ≡ true → (0 < r.runs) × (r.last < MOST_COUNT)
unfolding entry_step joins_key
entry-says r keys None q t = let z : ◌≡◌ {A = ℕ} 0 1 = cc in absurd (omega arith)
entry-says r keys (Some i) {item} {joins} {key} q t = step-open r _ (sym (adds_same q).1 ∙ t)

key-says :
    (k : Kind) (r : Counted) (h : Held) (keys : List ℤ) (row : Row) {item joins : Bool} {key : ℤ} → adds item joins key ≡ key_step k r h keys row
    → joins ≡ true → (0 < r.runs) × (r.last < MOST_COUNT)
unfolding key_step joins_key
key-says k r h keys null {item} {joins} {key} q t = step-open r _ (sym (adds_same q).1 ∙ t)
key-says k r h keys (int v) q t = entry-says r keys _ q t
key-says k r h keys (bytes bs) q t = entry-says r keys _ q t

each-says : {item joins : Bool} {key : ℤ} → adds item joins key ≡ adds true false (pos 0) → (item ≡ true) × (joins ≡ false)
each-says q = let e = adds_same q in (e.0, e.1)

-- a row that joins finds a run that is open; but for a dictionary, it is stored exactly if it doesn't join
pub step-says :
    (k : Kind) (e : Encoding) (r : Counted) (h : Held) (keys : List ℤ) (row : Row) {item joins : Bool} {key : ℤ} → adds item joins key ≡ step_of k e r h keys row
    → (joins ≡ true → (0 < r.runs) × (r.last < MOST_COUNT)) × (keyed e ≡ false → item ≡ not joins)
unfolding step_of keyed
step-says k Plain r h keys row {item} {joins} {key} q = each q
  where
    each : adds item joins key ≡ adds true false (pos 0) → (joins ≡ true → (0 < r.runs) × (r.last < MOST_COUNT)) × (false ≡ false → item ≡ not joins)
    each q = let s = each-says q in (λ t. apart (sym t ∙ s.1), λ _. s.0 ∙ ap not (sym s.1))
step-says k Nullable r h keys row {item} {joins} {key} q = each q
  where
    each : adds item joins key ≡ adds true false (pos 0) → (joins ≡ true → (0 < r.runs) × (r.last < MOST_COUNT)) × (false ≡ false → item ≡ not joins)
    each q = let s = each-says q in (λ t. apart (sym t ∙ s.1), λ _. s.0 ∙ ap not (sym s.1))
step-says k RunLength r h keys row q = let s = run-says k r h row q in (s.1, λ _. s.0)
step-says k RunLengthNullable r h keys row q = let s = run-says k r h row q in (s.1, λ _. s.0)
step-says k Dictionary r h keys row q = (key-says k r h keys row q, λ t. apart t)

-- ---- its key is an i32
none-fits : {item joins : Bool} {key : ℤ} {x y : Bool} → adds item joins key ≡ adds x y (pos 0) → SFits w32 key
none-fits q = subst (λ (i : ℤ). SFits w32 i) (sym (adds_same q).2) (record { sfits = omega arith })

run_fits : (k : Kind) (r : Counted) (h : Held) (row : Row) {item joins : Bool} {key : ℤ} → adds item joins key ≡ run_step k r h row → SFits w32 key
unfolding run_step
run_fits k r h row {item} {joins} {key} q = go (ltb 0 r.runs && field_wrong k r.runs r.bytes h (r.runs - 1)) q
  where
    go : (b : Bool) → adds item joins key ≡ cond b None (adds (not (joins_run k r h row)) (joins_run k r h row) (pos 0)) → SFits w32 key
    go true p = let z : ◌≡◌ {A = ℕ} 0 1 = cc in absurd (omega arith)
    go false p = none-fits p

entry-fits :
    (r : Counted) (keys : List ℤ) (l : Option ℕ) → ((i : ℕ) → l ≡ Some i → i ≤ MOST_ENTRIES) → {item joins : Bool} {key : ℤ} → adds item joins key ≡ entry_step r keys l
    → SFits w32 key
unfolding entry_step
entry-fits r keys None f q = let z : ◌≡◌ {A = ℕ} 0 1 = cc in absurd (omega arith)
entry-fits r keys (Some i) f {item} {joins} {key} q =
    subst (λ (y : ℤ). SFits w32 y) (sym (adds_same q).2) (key_fits i (f i refl))

key-step-fits :
    (k : Kind) (r : Counted) (h : Held) (keys : List ℤ) (row : Row) → r.entries ≤ MOST_ENTRIES → {item joins : Bool} {key : ℤ} → adds item joins key ≡ key_step k r h keys row
    → SFits w32 key
unfolding key_step null_key
key-step-fits k r h keys null n {item} {joins} {key} q =
    subst (λ (y : ℤ). SFits w32 y) (sym (adds_same q).2) (record { sfits = omega arith })
key-step-fits k r h keys (int v) n q = entry-fits r keys _ (look-few k r.entries r.bytes h (int v) n refl) q
key-step-fits k r h keys (bytes bs) n q = entry-fits r keys _ (look-few k r.entries r.bytes h (bytes bs) n refl) q

pub step_fits :
    (k : Kind) (e : Encoding) (r : Counted) (h : Held) (keys : List ℤ) (row : Row) → (keyed e ≡ true → r.entries ≤ MOST_ENTRIES)
    → {item joins : Bool} {key : ℤ} → adds item joins key ≡ step_of k e r h keys row → SFits w32 key
unfolding step_of keyed
step_fits k Plain r h keys row n q = none-fits q
step_fits k Nullable r h keys row n q = none-fits q
step_fits k RunLength r h keys row n q = run_fits k r h row q
step_fits k RunLengthNullable r h keys row n q = run_fits k r h row q
step_fits k Dictionary r h keys row n q = key-step-fits k r h keys row (n refl) q
