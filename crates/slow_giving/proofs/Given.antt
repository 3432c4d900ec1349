-- One row given: refused where the room is too short for it, and else laid over the front of each area that its kind uses. Assumes nothing.
use Prim.Native.Nat.{ℕ, ◌+◌, ◌≤◌, ◌<◌}
use native.Mathlib.Nat.{zero-add}
use native.Mathlib.Omega.{arith}
use mathlib.Core.Bool.{Bool, true, false, ◌||◌}
use mathlib.Core.List.{List, [], ◌∷◌, append-nil}
use mathlib.Core.Path.{◌≡◌, refl, sym, ap, ◌∙◌}
use borrow.Author.Tests.{lt-ltb, le-ltb}
use lib.Dec.{ltb}
use lib.IntN.{ℤ}
use lib.ListN.{length, set, take, drop, length-drop}
use lib.Seq.{length-take-le}
use Rattle.std.specs.Prelude.{Ok, Err}
use Rattle.limits.specs.declared.refusal.Refusal.{Refusal}
use Rattle.limits.specs.Limits.{MOST_BYTES, MOST_GIVEN}
use Rattle.area.specs.Area.{over}
use Rattle.area.proofs.Laws.{over-sets}
use Rattle.encode.proofs.Bools.{or-first, or-none}
use Rattle.encode.specs.declared.Kind.{Kind}
use Rattle.plain.specs.Rows.{Row, int_in, bytes_in}
use Rattle.plain.specs.Plain.{joined, ends_from}
use Rattle.nullable.specs.Nullable.{presence}
use Rattle.fill.specs.Areas.{Areas, areas, is_bytes, short, filled_in, given_bytes}
use Rattle.slow_answer.specs.Slow.{row_given, shown_in}
use Rattle.slow_giving.specs.Giving.{Gives, GivesInt, GivesBytes}

-- ---- refused, or written
module _ (k : Kind) (row : Row) (a : Areas) where
  refused : short k (row ∷ []) a ≡ true → Gives (Err Refusal.Room) a (shown_in k row a)
  unfolding shown_in
  refused h = (rw h, rw h)

  written : {len : ℕ} {after : Areas} → len ≡ given_bytes k (row ∷ []) → after ≡ filled_in k (row ∷ []) a → short k (row ∷ []) a ≡ false
      → Gives (Ok len) after (shown_in k row a)
  unfolding shown_in
  written e f h = (rw h (ap (row_given 0) e), rw h f)

or-last : (a : Bool) {b : Bool} → b ≡ true → (a || b) ≡ true
or-last true h = refl
or-last false h = h

-- an area with its first element set
set_front : {A : Type 0} (d : List A) (v : A) → 0 < length d → set d 0 v ≡ over d 0 (v ∷ [])
set_front d v h = over-sets (v ∷ []) d 0 (omega arith)

-- ---- one row: when the room is too short for it, and what is written of it
module _ (k : Kind) (row : Row) (vs : List ℤ) (fs es bs : List ℕ) where
  no-flags : length fs ≡ 0 → short k (row ∷ []) (areas vs fs es bs) ≡ true
  unfolding short
  no-flags h = sym (or-first _ (lt-ltb (length fs) 1 (omega arith)))

  module _ (fixed : is_bytes k ≡ false) where
    short-int : short k (row ∷ []) (areas vs fs es bs) ≡ (ltb (length fs) 1 || ltb (length vs) 1)
    unfolding short
    short-int = rw fixed

    filled-int : areas (over vs 0 (int_in row ∷ [])) (over fs 0 (presence row ∷ [])) es bs ≡ filled_in k (row ∷ []) (areas vs fs es bs)
    unfolding filled_in
    filled-int = rw fixed

    none-given : 0 ≡ given_bytes k (row ∷ [])
    unfolding given_bytes
    none-given = rw fixed

  module _ (text : is_bytes k ≡ true) where
    short-bytes :
        short k (row ∷ []) (areas vs fs es bs)
        ≡ (ltb (length fs) 1 || (ltb (length es) 1 || ltb (length bs) (length (bytes_in row)) || ltb MOST_GIVEN (length (bytes_in row))))
    unfolding short joined
    short-bytes = rw (text, append-nil)

    filled-bytes :
        areas vs (over fs 0 (presence row ∷ [])) (over es 0 (length (bytes_in row) ∷ [])) (over bs 0 (bytes_in row))
        ≡ filled_in k (row ∷ []) (areas vs fs es bs)
    unfolding filled_in joined ends_from
    filled-bytes = rw (text, append-nil, zero-add)

    all-given : length (bytes_in row) ≡ given_bytes k (row ∷ [])
    unfolding given_bytes joined
    all-given = rw (text, append-nil)

-- ---- an integer and its flag
module _ (v : ℤ) (flag : ℕ) (vs : List ℤ) (fs : List ℕ) where
  pub int-no-flag : length fs ≡ 0 → GivesInt v flag vs fs (Err Refusal.Room) vs fs
  int-no-flag h k row es bs fixed f p = refused k row (areas vs fs es bs) (no-flags k row vs fs es bs h)

  pub int-no-room : length vs ≡ 0 → GivesInt v flag vs fs (Err Refusal.Room) vs fs
  int-no-room h k row es bs fixed f p =
      refused k row (areas vs fs es bs) (short-int k row vs fs es bs fixed ∙ or-last (ltb (length fs) 1) (lt-ltb (length vs) 1 (omega arith)))

  pub int-given : 0 < length vs → 0 < length fs → GivesInt v flag vs fs (Ok 0) (set vs 0 v) (set fs 0 flag)
  int-given hv hf k row es bs fixed f p =
      let front = set_front vs v hv ∙ ap (λ (z : ℤ). over vs 0 (z ∷ [])) f in
      let flagged = set_front fs flag hf ∙ ap (λ (z : ℕ). over fs 0 (z ∷ [])) p in
      written k row (areas vs fs es bs)
      (none-given k row vs fs es bs fixed)
      (ap (λ (z : List ℤ). areas z (set fs 0 flag) es bs) front ∙ ap (λ (z : List ℕ). areas (over vs 0 (int_in row ∷ [])) z es bs) flagged
      ∙ filled-int k row vs fs es bs fixed)
      (short-int k row vs fs es bs fixed ∙ or-none (le-ltb (length fs) 1 hf) (le-ltb (length vs) 1 hv))

-- ---- bytes and their flag
pub part-long : (s : List ℕ) (from len : ℕ) → from + len ≤ length s → len ≡ length (take len (drop from s))
part-long s from len h = sym (length-take-le len (drop from s) (simp length-drop (omega arith)))

module _ (item : List ℕ) (flag : ℕ) (fs es bs : List ℕ) where
  pub bytes-no-flag : length fs ≡ 0 → GivesBytes item flag fs es bs (Err Refusal.Room) fs es bs
  bytes-no-flag h k row vs text f p = refused k row (areas vs fs es bs) (no-flags k row vs fs es bs h)

  pub bytes-no-end : length es ≡ 0 → GivesBytes item flag fs es bs (Err Refusal.Room) fs es bs
  bytes-no-end h k row vs text f p =
      let m = length (bytes_in row) in
      let t = sym (or-first (ltb MOST_GIVEN m) (sym (or-first (ltb (length bs) m) (lt-ltb (length es) 1 (omega arith))))) in
      refused k row (areas vs fs es bs) (short-bytes k row vs fs es bs text ∙ or-last (ltb (length fs) 1) t)

  module _ {len : ℕ} (long : len ≡ length item) where
    pub bytes-no-room : length bs < len → GivesBytes item flag fs es bs (Err Refusal.Room) fs es bs
    bytes-no-room h k row vs text f p =
        let m = length (bytes_in row) in
        let l : len ≡ m = long ∙ ap length f in
        let t = sym (or-first (ltb MOST_GIVEN m) (or-last (ltb (length es) 1) (lt-ltb (length bs) m (omega arith)))) in
        refused k row (areas vs fs es bs) (short-bytes k row vs fs es bs text ∙ or-last (ltb (length fs) 1) t)

    pub bytes-given :
        len ≤ MOST_BYTES → 0 < length fs → 0 < length es → len ≤ length bs → {bs' : List ℕ} → bs' ≡ over bs 0 item
        → GivesBytes item flag fs es bs (Ok len) (set fs 0 flag) (set es 0 len) bs'
    bytes-given few hf he hb {bs'} q k row vs text f p =
        let m = length (bytes_in row) in
        let l : len ≡ m = long ∙ ap length f in
        let flagged = set_front fs flag hf ∙ ap (λ (z : ℕ). over fs 0 (z ∷ [])) p in
        let ended = set_front es len he ∙ ap (λ (z : ℕ). over es 0 (z ∷ [])) l in
        let front = q ∙ ap (over bs 0) f in
        written k row (areas vs fs es bs)
        (l ∙ all-given k row vs fs es bs text)
        (ap (λ (z : List ℕ). areas vs z (set es 0 len) bs') flagged ∙ ap (λ (z : List ℕ). areas vs (over fs 0 (presence row ∷ [])) z bs') ended
        ∙ ap (areas vs (over fs 0 (presence row ∷ [])) (over es 0 (m ∷ []))) front ∙ filled-bytes k row vs fs es bs text)
        (short-bytes k row vs fs es bs text
        ∙ or-none (le-ltb (length fs) 1 hf)
        (or-none (or-none (le-ltb (length es) 1 he) (le-ltb (length bs) m (omega arith))) (le-ltb MOST_GIVEN m (omega arith))))
