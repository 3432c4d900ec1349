-- Counts within their limits and past them, on each way through the tests. Assumes nothing.
use Prim.Native.Nat.{ℕ, ◌≤◌, ◌<◌}
use native.Mathlib.Omega.{arith}
use mathlib.Core.Path.{◌≡◌, refl, sym, ap, subst, ◌∙◌}
use mathlib.Core.Bool.{Bool, true, false, cond, ◌&&◌, ◌||◌}
use lib.Dec.{ltb}
use borrow.Author.Tests.{lt-ltb, le-ltb, ltb-false}
use Rattle.limits.specs.Limits.{MOST_ROWS, MOST_ITEMS, MOST_ENTRIES, MOST_BYTES}
use Rattle.encode.specs.declared.Kind.{Kind}
use Rattle.format.specs.declared.Encoding.{Encoding}
use Rattle.format.specs.declared.Encoding.TheVariants.{Plain, Nullable, RunLength, RunLengthNullable, Dictionary}
use Rattle.encode.proofs.Bools.{or-first, or-then, or-none, neither, clash as apart}
use Rattle.needs.specs.declared.Counted.{Counted}
use Rattle.needs.specs.Needs.{coded, keyed, stored_by, finished_bytes, counts_past, past_limits}
use Rattle.needs.specs.Tests.{rows_by, runs_by}
use Rattle.needs.proofs.Encodings.{coded-keys, keyed-so, rows-stored, runs-coded}

-- ---- counts within their limits
-- what stands behind the limits
pub record Few (e : Encoding) (r : Counted) : Type 0 where
  pub rows : r.rows ≤ MOST_ROWS
  pub stored : stored_by e r ≤ MOST_ITEMS
  pub runs : coded e ≡ true → r.runs ≤ MOST_ITEMS
  pub entries : keyed e ≡ true → r.entries ≤ MOST_ENTRIES

pub few : (e : Encoding) (r : Counted) → counts_past e r ≡ false → Few e r
unfolding counts_past stored_by coded keyed
few e r h = go e h
  where
    go : (e : Encoding) → counts_past e r ≡ false → Few e r
    go Plain h =
        let a = neither _ false h in
        let b = neither (ltb MOST_ROWS r.rows) (ltb MOST_ITEMS r.rows) a.0 in
        record {
          rows = ltb-false MOST_ROWS r.rows b.0;
          stored = ltb-false MOST_ITEMS r.rows b.1;
          runs = λ t. apart (sym t);
          entries = λ t. apart (sym t);
        }
    go Nullable h =
        let a = neither _ false h in
        let b = neither (ltb MOST_ROWS r.rows) (ltb MOST_ITEMS r.rows) a.0 in
        record {
          rows = ltb-false MOST_ROWS r.rows b.0;
          stored = ltb-false MOST_ITEMS r.rows b.1;
          runs = λ t. apart (sym t);
          entries = λ t. apart (sym t);
        }
    go RunLength h =
        let a = neither _ false h in
        let b = neither (ltb MOST_ROWS r.rows) (ltb MOST_ITEMS r.runs) a.0 in
        record {
          rows = ltb-false MOST_ROWS r.rows b.0;
          stored = ltb-false MOST_ITEMS r.runs b.1;
          runs = λ t. ltb-false MOST_ITEMS r.runs b.1;
          entries = λ t. apart (sym t);
        }
    go RunLengthNullable h =
        let a = neither _ false h in
        let b = neither (ltb MOST_ROWS r.rows) (ltb MOST_ITEMS r.runs) a.0 in
        record {
          rows = ltb-false MOST_ROWS r.rows b.0;
          stored = ltb-false MOST_ITEMS r.runs b.1;
          runs = λ t. ltb-false MOST_ITEMS r.runs b.1;
          entries = λ t. apart (sym t);
        }
    go Dictionary h =
        let a = neither _ (ltb MOST_ENTRIES r.entries) h in
        let b = neither (ltb MOST_ROWS r.rows) (ltb MOST_ITEMS r.runs) a.0 in
        let c = ltb-false MOST_ENTRIES r.entries a.1 in
        record {
          rows = ltb-false MOST_ROWS r.rows b.0;
          stored = omega (arith, c);
          runs = λ t. ltb-false MOST_ITEMS r.runs b.1;
          entries = λ t. c;
        }

module _ (r : Counted) {e : Encoding} (h : counts_past e r ≡ false) where
  pub rows-within : (f : Bool) → e ≡ rows_by f → r.rows ≤ MOST_ITEMS
  rows-within f q =
      subst (λ (n : ℕ). n ≤ MOST_ITEMS) (sym (rows-stored f r)) (few (rows_by f) r (subst (λ (g : Encoding). counts_past g r ≡ false) q h)).stored

  pub runs-within : (f : Bool) → e ≡ runs_by f → r.runs ≤ MOST_ITEMS
  runs-within f q = (few (runs_by f) r (subst (λ (g : Encoding). counts_past g r ≡ false) q h)).runs (runs-coded f)

  pub keys-within : e ≡ Dictionary → (r.runs ≤ MOST_ITEMS) × (r.entries ≤ MOST_ENTRIES)
  keys-within q = ((few e r h).runs (coded-keys e q), (few e r h).entries (sym (keyed-so e q)))

-- ---- limits
pub or-last : (a : Bool) {b : Bool} → b ≡ true → true ≡ (a || b)
or-last true h = refl
or-last false h = sym h

module _ (k : Kind) (e : Encoding) (r : Counted) where
  past-counts : counts_past e r ≡ true → true ≡ past_limits k e r
  unfolding past_limits
  past-counts h = or-first _ h

  pub past-rows : MOST_ROWS < r.rows → true ≡ past_limits k e r
  unfolding counts_past
  past-rows h = past-counts (sym (or-first _ (sym (or-first _ (lt-ltb MOST_ROWS r.rows h)))))

  pub past-runs : coded e ≡ true → MOST_ITEMS < r.runs → true ≡ past_limits k e r
  unfolding counts_past
  past-runs c h =
      past-counts (sym (or-first _ (sym (or-last (ltb MOST_ROWS r.rows)
      (ap (λ (b : Bool). ltb MOST_ITEMS (cond b r.runs r.rows)) c ∙ lt-ltb MOST_ITEMS r.runs h)))))

  pub past-entries : keyed e ≡ true → MOST_ENTRIES < r.entries → true ≡ past_limits k e r
  unfolding counts_past
  past-entries c h =
      past-counts (sym (or-last (ltb MOST_ROWS r.rows || ltb MOST_ITEMS (cond (coded e) r.runs r.rows))
      (ap (λ (b : Bool). b && ltb MOST_ENTRIES r.entries) c ∙ lt-ltb MOST_ENTRIES r.entries h)))

  past-items : coded e ≡ false → MOST_ITEMS < r.rows → true ≡ past_limits k e r
  unfolding counts_past
  past-items c h =
      past-counts (sym (or-first _ (sym (or-last (ltb MOST_ROWS r.rows)
      (ap (λ (b : Bool). ltb MOST_ITEMS (cond b r.runs r.rows)) c ∙ lt-ltb MOST_ITEMS r.rows h)))))

  pub past-stored : MOST_ITEMS < stored_by e r → true ≡ past_limits k e r
  unfolding stored_by
  past-stored h = go (keyed e) (coded e) refl refl h
    where
      go : (a b : Bool) → keyed e ≡ a → coded e ≡ b → MOST_ITEMS < cond a r.entries (cond b r.runs r.rows) → true ≡ past_limits k e r
      go true b p q h = past-entries p (omega (arith, h))
      go false true p q h = past-runs q h
      go false false p q h = past-items q h

  pub past-block : counts_past e r ≡ false → {n : ℕ} → n ≡ finished_bytes k e r → ltb MOST_BYTES n ≡ past_limits k e r
  unfolding past_limits
  past-block t h = or-then t (ap (ltb MOST_BYTES) h)

  pub limit-past : MOST_BYTES < finished_bytes k e r → past_limits k e r ≡ true
  unfolding past_limits
  limit-past h = sym (or-last (counts_past e r) (lt-ltb MOST_BYTES (finished_bytes k e r) h))

-- within their limits
pub rows_few : (f : Bool) (r : Counted) → r.rows ≤ MOST_ITEMS → counts_past (rows_by f) r ≡ false
unfolding counts_past coded keyed
rows_few true r h = or-none (or-none (le-ltb MOST_ROWS r.rows (omega arith)) (le-ltb MOST_ITEMS r.rows h)) refl
rows_few false r h = or-none (or-none (le-ltb MOST_ROWS r.rows (omega arith)) (le-ltb MOST_ITEMS r.rows h)) refl

module _ (r : Counted) (h : r.rows ≤ MOST_ROWS) (g : r.runs ≤ MOST_ITEMS) where
  pub runs-few : (f : Bool) → counts_past (runs_by f) r ≡ false
  unfolding counts_past coded keyed
  runs-few true = or-none (or-none (le-ltb MOST_ROWS r.rows h) (le-ltb MOST_ITEMS r.runs g)) refl
  runs-few false = or-none (or-none (le-ltb MOST_ROWS r.rows h) (le-ltb MOST_ITEMS r.runs g)) refl

  pub keys-few : r.entries ≤ MOST_ENTRIES → counts_past Dictionary r ≡ false
  unfolding counts_past coded keyed
  keys-few l = or-none (or-none (le-ltb MOST_ROWS r.rows h) (le-ltb MOST_ITEMS r.runs g)) (le-ltb MOST_ENTRIES r.entries l)

pub within : (k : Kind) (e : Encoding) (r : Counted) {x : Bool} → x ≡ past_limits k e r → x ≡ false → counts_past e r ≡ false
unfolding past_limits
within k e r q t = (neither (counts_past e r) (ltb MOST_BYTES (finished_bytes k e r)) (sym q ∙ t)).0

pub limit-holds : (k : Kind) (e : Encoding) (r : Counted) → past_limits k e r ≡ false → finished_bytes k e r ≤ MOST_BYTES
unfolding past_limits
limit-holds k e r h = ltb-false MOST_BYTES (finished_bytes k e r) (neither (counts_past e r) (ltb MOST_BYTES (finished_bytes k e r)) h).1
