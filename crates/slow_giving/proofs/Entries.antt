-- The row that an entry shows, by the kind that a match found, and the room that a good plain block has for it. Assumes nothing.
use Prim.Native.Nat.{ℕ, ◌+◌, ◌*◌, ◌≤◌, ◌<◌}
use native.Mathlib.Numerals.{add-one}
use native.Mathlib.Omega.{arith}
use mathlib.Core.Bool.{Bool, true}
use mathlib.Core.List.{List}
use mathlib.Core.Path.{◌≡◌, sym, ap, subst, ◌∙◌}
use lib.IntN.{ℤ}
use lib.ListN.{length}
use Rattle.std.specs.Prelude.{Option, Some, None, Result}
use Rattle.limits.specs.declared.refusal.Refusal.{Refusal}
use Rattle.encode.specs.Kinds.{width_of}
use Rattle.encode.specs.declared.Primitive.{Primitive}
use Rattle.encode.specs.declared.Kind.{Kind}
use Rattle.encode.specs.declared.Kind.TheVariants.{Fixed, Char, Blob}
use Rattle.plain.specs.Rows.{Row, null, int, bytes}
use Rattle.plain.specs.Plain.{fixed_at, char_at, blob_at, plain_row, plain_number, least_bytes}
use Rattle.plain.proofs.Items.{item_room}
use Rattle.plain.proofs.Numbers.{plain-least}
use Rattle.plain.proofs.Ranges.{least-found}
use Rattle.dict.specs.Dictionary.{entry_row}
use Rattle.fill.specs.Areas.{Areas, is_bytes}
use Rattle.slow_answer.specs.Slow.{shown_in}
use Rattle.slow_plain.specs.Items.{slot_of}
use Rattle.slow_giving.specs.Giving.{Gives}

-- what is given of a row is given of one that equals it
pub given-as : (k : Kind) (a : Areas) {row due : Row} (x : Result ℕ Refusal) {after : Areas} → row ≡ due → Gives x after (shown_in k row a) → Gives x after (shown_in k due a)
given-as k a {row} {due} x {after} e g = subst (λ (r : Row). Gives x after (shown_in k r a)) e g

module _ (k : Kind) (n : ℕ) (s : List ℕ) {item : Option ℕ} where
  pub null-shown : item ≡ None → null ≡ entry_row k n s (slot_of item)
  unfolding entry_row
  null-shown e = rw e

  module _ {i : ℕ} (is : item ≡ Some i) where
    item-shown : plain_row k n s i ≡ entry_row k n s (slot_of item)
    unfolding entry_row
    item-shown = rw (is, add-one)

    pub item-there : slot_of item ≤ n → i < n
    item-there h = let l = rw is at h in omega arith

    found-shown : (j : Kind) → k ≡ j → plain_row j n s i ≡ entry_row k n s (slot_of item)
    found-shown j e = ap (λ (q : Kind). plain_row q n s i) (sym e) ∙ item-shown

    pub fixed-shown : (p : Primitive) {v : ℤ} → k ≡ Fixed p → v ≡ fixed_at p s i → int v ≡ entry_row k n s (slot_of item)
    unfolding plain_row
    fixed-shown p e h = ap (λ (z : ℤ). int z) h ∙ found-shown (Fixed p) e

    pub char-shown : (w : ℕ) → k ≡ Char w → bytes (char_at w s i) ≡ entry_row k n s (slot_of item)
    unfolding plain_row
    char-shown w e = found-shown (Char w) e

    pub blob-shown : (text : Bool) → k ≡ Blob text → bytes (blob_at n s i) ≡ entry_row k n s (slot_of item)
    unfolding plain_row
    blob-shown text e = found-shown (Blob text) e

-- blob and string are bytes
pub is-blob : (k : Kind) (text : Bool) → k ≡ Blob text → is_bytes k ≡ true
unfolding is_bytes
is-blob k text e = rw e

-- the bytes of a fixed item are there
pub fixed-room :
    (k : Kind) (n : ℕ) (s : List ℕ) (p : Primitive) (i : ℕ) → k ≡ Fixed p → plain_number k n s ≡ 0 → i < n → i * width_of p + width_of p ≤ length s
unfolding least_bytes
fixed-room k n s p i e z h = item_room i n (width_of p) (length s) h (least-found e n s (plain-least k n s z))
