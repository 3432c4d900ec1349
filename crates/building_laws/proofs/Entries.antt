-- The entries and the keys of a list with one row more at its end: entries come last, and the keys of the rows before stay. Assumes nothing.
use Prim.Native.Nat.{ℕ, suc, ◌-◌, ◌≤◌, ◌<◌}
use native.Mathlib.Omega.{arith}
use mathlib.Core.Bool.{Bool, true, false, cond}
use mathlib.Core.List.{List, [], ◌∷◌, ◌++◌, map, map-append}
use mathlib.Core.Path.{◌≡◌, refl, sym, ap, ◌∙◌}
use lib.Dec.{ltb, eqb}
use lib.IntN.{pos, negsuc}
use lib.Signed.{mag}
use lib.ListN.{length, length-append}
use borrow.Author.Tests.{lt-ltb, ltb-true, ltb-false, eqb-true, eqb-false, eq-eqb, ne_eqb}
use Rattle.limits.specs.Limits.{MOST_ENTRIES}
use Rattle.plain.specs.Each.{Each}
use Rattle.plain.specs.Rows.{Row, null, int, bytes, fits}
use Rattle.plain.proofs.Each.{each_append}
use Rattle.nullable.specs.Nullable.{presence}
use Rattle.dict.specs.Dictionary.{i32, index_of, with_entry, entries_after, entries_of, null_key, entry_key, key_of}
use Rattle.dict.proofs.Entries.{index-most, index_kept, index-new, after-append}
use Rattle.format.specs.Sizes.{keys_of}

-- ---- one row more
-- a row that is present and new is one entry more
unfoldable pub is_new : List Row → Row → Bool
is_new es null = false
is_new es (int v) = eqb (index_of (int v) es) (length es)
is_new es (bytes bs) = eqb (index_of (bytes bs) es) (length es)

tested : (x : Row) (es : List Row) → cond (ltb (index_of x es) (length es)) es (es ++ (x ∷ [])) ≡ cond (eqb (index_of x es) (length es)) (es ++ (x ∷ [])) es
tested x es = go (ltb (index_of x es) (length es)) refl
  where
    go : (t : Bool) → ltb (index_of x es) (length es) ≡ t → cond t es (es ++ (x ∷ [])) ≡ cond (eqb (index_of x es) (length es)) (es ++ (x ∷ [])) es
    go true h =
        let l = ltb-true (index_of x es) (length es) h in
        rw (ne_eqb (index_of x es) (length es) (λ q. omega arith))
    go false h =
        let l = ltb-false (index_of x es) (length es) h in
        let m = index-most x es in
        rw (eq-eqb (index_of x es) (length es) (omega arith))

pub with-entry : (es : List Row) (x : Row) → with_entry es x ≡ cond (is_new es x) (es ++ (x ∷ [])) es
unfolding with_entry is_new
with-entry es null = refl
with-entry es (int v) = tested (int v) es
with-entry es (bytes bs) = tested (bytes bs) es

after-snoc : (es rows : List Row) (x : Row) → entries_after es (rows ++ (x ∷ [])) ≡ with_entry (entries_after es rows) x
unfolding entries_after
after-snoc es rows x = after-append es rows (x ∷ [])

pub entries-snoc : (rows : List Row) (x : Row) → entries_of (rows ++ (x ∷ [])) ≡ cond (is_new (entries_of rows) x) (entries_of rows ++ (x ∷ [])) (entries_of rows)
unfolding entries_of
entries-snoc rows x = after-snoc [] rows x ∙ with-entry (entries_after [] rows) x

-- ---- keys
-- a null has a key of its own, and any other row is among the entries
abbrev Known : List Row → Row → Type 0
Known es null = Unit
Known es (int v) = index_of (int v) es < length es
Known es (bytes bs) = index_of (bytes bs) es < length es

index_stays : (x y : Row) (es : List Row) → index_of x es < length es → index_of x (with_entry es y) ≡ index_of x es
index_stays x y es h = rw (with-entry es y) (go (is_new es y))
  where
    go : (t : Bool) → index_of x (cond t (es ++ (y ∷ [])) es) ≡ index_of x es
    go true = index_kept x es (y ∷ []) h
    go false = refl

length-grows : (es : List Row) (y : Row) → length es ≤ length (with_entry es y)
length-grows es y = rw (with-entry es y) (go (is_new es y))
  where
    go : (t : Bool) → length es ≤ length (cond t (es ++ (y ∷ [])) es)
    go true = omega (arith, length-append es (y ∷ []))
    go false = omega arith

known-stays : (x y : Row) (es : List Row) → Known es x → Known (with_entry es y) x
known-stays null y es h = tt
known-stays (int v) y es h = omega (arith, index_stays (int v) y es h, length-grows es y)
known-stays (bytes bs) y es h = omega (arith, index_stays (bytes bs) y es h, length-grows es y)

key-stays : (x y : Row) (es : List Row) → Known es x → key_of (with_entry es y) x ≡ key_of es x
unfolding key_of
key-stays null y es h = refl
key-stays (int v) y es h = rw (index_stays (int v) y es h)
key-stays (bytes bs) y es h = rw (index_stays (bytes bs) y es h)

-- a row's own place, once it is counted in
own : (x : Row) (es : List Row) → (t : Bool) → eqb (index_of x es) (length es) ≡ t
    → (index_of x (cond t (es ++ (x ∷ [])) es) ≡ index_of x es) × (index_of x (cond t (es ++ (x ∷ [])) es) < length (cond t (es ++ (x ∷ [])) es))
own x es true h =
    let q = index-new x es (eqb-true (index_of x es) (length es) h) in
    let l = length-append es (x ∷ []) in
    (q ∙ sym (eqb-true (index_of x es) (length es) h), omega arith)
own x es false h = (refl, let m = index-most x es in let n = eqb-false (index_of x es) (length es) h in omega arith)

known-own : (x : Row) (es : List Row) → Known (with_entry es x) x
unfolding is_new
known-own null es = tt
known-own (int v) es = rw (with-entry es (int v)) (own (int v) es (eqb (index_of (int v) es) (length es)) refl).1
known-own (bytes bs) es = rw (with-entry es (bytes bs)) (own (bytes bs) es (eqb (index_of (bytes bs) es) (length es)) refl).1

key-own : (x : Row) (es : List Row) → key_of (with_entry es x) x ≡ key_of es x
unfolding key_of is_new
key-own null es = refl
key-own (int v) es = rw (with-entry es (int v), (own (int v) es (eqb (index_of (int v) es) (length es)) refl).0)
key-own (bytes bs) es = rw (with-entry es (bytes bs), (own (bytes bs) es (eqb (index_of (bytes bs) es) (length es)) refl).0)

-- then it is no longer new
no-longer-new : (x : Row) (es : List Row) → is_new (with_entry es x) x ≡ false
unfolding is_new
no-longer-new null es = refl
no-longer-new (int v) es =
    let l = known-own (int v) es in
    ne_eqb (index_of (int v) (with_entry es (int v))) (length (with_entry es (int v))) (λ q. omega arith)
no-longer-new (bytes bs) es =
    let l = known-own (bytes bs) es in
    ne_eqb (index_of (bytes bs) (with_entry es (bytes bs))) (length (with_entry es (bytes bs))) (λ q. omega arith)

known-after : (x : Row) (es rows : List Row) → Known es x → Known (entries_after es rows) x
unfolding entries_after
known-after x es [] h = h
known-after x es (y ∷ rows) h = known-after x (with_entry es y) rows (known-stays x y es h)

each-known : (es rows : List Row) → Each (Known (entries_after es rows)) rows
unfolding entries_after
each-known es [] = tt
each-known es (y ∷ rows) = (known-after y (with_entry es y) rows (known-own y es), each-known (with_entry es y) rows)

same_keys : (es : List Row) (x : Row) (rows : List Row) → Each (Known es) rows → map (key_of (with_entry es x)) rows ≡ map (key_of es) rows
same_keys es x [] h = refl
same_keys es x (y ∷ rows) h = rw (key-stays y x es h.0, same_keys es x rows h.1)

pub keys-snoc : (rows : List Row) (x : Row) → keys_of (rows ++ (x ∷ [])) ≡ keys_of rows ++ (key_of (entries_of rows) x ∷ [])
unfolding keys_of entries_of
keys-snoc rows x =
    let es : List Row = entries_after [] rows in
    rw (after-snoc [] rows x, map-append (key_of (with_entry es x)) rows (x ∷ []), same_keys es x rows (each-known [] rows), key-own x es)

-- ---- the last row once more: it is no new entry, and its key stays
pub not-new-again : (rows : List Row) (x : Row) → is_new (entries_of (rows ++ (x ∷ []))) x ≡ false
unfolding entries_of
not-new-again rows x = rw (after-snoc [] rows x) (no-longer-new x (entries_after [] rows))

pub key-again : (rows : List Row) (x : Row) → key_of (entries_of (rows ++ (x ∷ []))) x ≡ key_of (entries_of rows) x
unfolding entries_of
key-again rows x = rw (after-snoc [] rows x) (key-own x (entries_after [] rows))

-- ---- no entry is a null
some-entries : (es rows : List Row) → Each (λ r. presence r ≡ 1) es → Each (λ r. presence r ≡ 1) (entries_after es rows)
unfolding entries_after is_new presence
some-entries es [] h = h
some-entries es (y ∷ rows) h = some-entries (with_entry es y) rows (rw (with-entry es y) (go y))
  where
    grow : (y : Row) (t : Bool) → presence y ≡ 1 → Each (λ r. presence r ≡ 1) (cond t (es ++ (y ∷ [])) es)
    grow y true p = each_append (λ r. presence r ≡ 1) es (y ∷ []) h (p, tt)
    grow y false p = h

    go : (y : Row) → Each (λ r. presence r ≡ 1) (cond (is_new es y) (es ++ (y ∷ [])) es)
    go null = h
    go (int v) = grow (int v) (eqb (index_of (int v) es) (length es)) refl
    go (bytes bs) = grow (bytes bs) (eqb (index_of (bytes bs) es) (length es)) refl

pub entries-present : (rows : List Row) → Each (λ r. presence r ≡ 1) (entries_of rows)
unfolding entries_of
entries-present rows = some-entries [] rows tt

-- ---- keys are integers of an i32
entry-key-fits : (i : ℕ) → i ≤ MOST_ENTRIES → fits i32 (int (entry_key i)) ≡ true
unfolding fits entry_key
entry-key-fits i h =
    let a : ltb i 2147483647 ≡ true = lt-ltb i 2147483647 (omega arith) in
    ap (λ (t : Bool). ltb (mag (cond t (negsuc (2147483647 - suc i)) (pos (i - 2147483647)))) 2147483648) a
    ∙ lt-ltb (2147483647 - suc i) 2147483648 (omega arith)

pub key_fits : (es : List Row) (x : Row) → length es ≤ MOST_ENTRIES → fits i32 (key_of es x) ≡ true
unfolding key_of fits null_key
key_fits es null h = refl
key_fits es (int v) h = entry-key-fits (index_of (int v) es) (omega (arith, index-most (int v) es))
key_fits es (bytes bs) h = entry-key-fits (index_of (bytes bs) es) (omega (arith, index-most (bytes bs) es))
