-- The row of one place: what a good place tells of its parts, which item it shows, and its text and flag. Assumes nothing.
use Prim.Native.Nat.{ℕ, zero, suc, ◌+◌, ◌-◌, ◌*◌, ◌≤◌, ◌<◌}
use native.Mathlib.Numerals.{add-one}
use native.Mathlib.Omega.{arith}
use mathlib.Core.Bool.{Bool, true, false, cond, ◌&&◌, and-false}
use mathlib.Core.List.{List, [], ◌∷◌}
use mathlib.Core.Logic.{inl, inr, ⊎_elim}
use mathlib.Core.Path.{◌≡◌, refl, sym, ap, subst, ◌∙◌}
use lib.Dec.{ltb, leb, eqb}
use lib.IntN.{ℤ}
use lib.ListN.{length, take, drop, length-drop}
use lib.Seq.{length-take-le}
use types.Run.{OneOf, miss}
use denote.Enum.Declared.{tag_of}
use borrow.Author.Tests.{lt-ltb, le-ltb, ltb-true, le-leb, lt-leb, leb-true, leb-false, eq-eqb, ne_eqb}
use Rattle.area.proofs.Laws.{lt-or-ge}
use Rattle.encode.specs.declared.Kind.{Kind}
use Rattle.encode.specs.Kinds.{blob}
use Rattle.encode.specs.declared.Kind.TheVariants.{Fixed, Char, Blob}
use Rattle.encode.specs.declared.Primitive.{Primitive}
use Rattle.limits.specs.Limits.{MOST_ITEMS}
use Rattle.plain.specs.Rows.{bytes_in}
use Rattle.plain.specs.Plain.{ends_good, plain_row}
use Rattle.nullable.specs.Nullable.{bit_at, presence}
use Rattle.dict.specs.Dictionary.{slot_at, entry_row, entry_good}
use Rattle.source.specs.declared.Marks.{Marks}
use Rattle.source.specs.declared.Marks.TheVariants.{Bare, Bits, Keys}
use Rattle.source.specs.declared.Source.{Source}
use Rattle.source.specs.Rows.{shown_by, seen_by, most_by, row_by, text_of, text_by, size_by, int_of, int_by, flag_by, good_by, sees_by, MarkBytes, Ready, Texts}
use Rattle.source.specs.contracts.Marks.{the_type}
use Rattle.source.proofs.Folds.{both}

-- the length of bytes that lie in a part
pub part_length : (part : List ℕ) (from len : ℕ) {xs : List ℕ} → from + len ≤ length part → take len (drop from part) ≡ xs → len ≡ length xs
part_length part from len h q = sym (length-take-le len (drop from part) (simp length-drop (omega arith))) ∙ ap length q

-- ---- an item, counted from 1 on, is there and good
module _ (kind : Kind) (n : ℕ) (part : List ℕ) where
  pub entry_past : (slot : ℕ) → (slot ≡ 0 → ⊥) → n ≤ slot - 1 → false ≡ entry_good kind n part slot
  unfolding entry_good
  entry_past zero z h = absurd (z refl)
  entry_past (suc i) z h = simp (le-ltb i n (omega arith))

  pub entry-there : (slot : ℕ) {r : Bool} → (slot ≡ 0 → ⊥) → slot - 1 < n → r ≡ ends_good kind n part (slot - 1) → r ≡ entry_good kind n part slot
  unfolding entry_good
  entry-there zero z h e = absurd (z refl)
  entry-there (suc i) z h e = let m : suc i - 1 ≡ i = omega arith in rw m at e ∙ simp (lt-ltb i n (omega arith))

  -- one that is there, of a kind with no ends
  pub entry-fine : (slot : ℕ) → slot ≤ n → ((i : ℕ) → ends_good kind n part i ≡ true) → entry_good kind n part slot ≡ true
  unfolding entry_good
  entry-fine zero h e = refl
  entry-fine (suc i) h e = rw (e i) (simp (lt-ltb i n (omega arith)))

  -- one that isn't good is not null
  pub entry-some : (slot : ℕ) → entry_good kind n part slot ≡ false → 0 < slot
  unfolding entry_good
  entry-some zero h = let z : ◌≡◌ {A = ℕ} 0 1 = cc in absurd (omega arith)
  entry-some (suc i) h = omega arith

  -- what a good one tells
  entry-most : (slot : ℕ) → entry_good kind n part slot ≡ true → slot ≤ n
  unfolding entry_good
  entry-most zero h = omega arith
  entry-most (suc i) h = omega (arith, ltb-true i n (both (ltb i n) (ends_good kind n part i) h).0)

  entry-ends : (slot : ℕ) → (slot ≡ 0 → ⊥) → entry_good kind n part slot ≡ true → ends_good kind n part (slot - 1) ≡ true
  unfolding entry_good
  entry-ends zero z h = absurd (z refl)
  entry-ends (suc i) z h = let m : suc i - 1 ≡ i = omega arith in rw m (both (ltb i n) (ends_good kind n part i) h).1

  -- its bytes
  pub text-none : (slot : ℕ) → slot ≡ 0 → (0 + 0 ≤ length part) × (take 0 (drop 0 part) ≡ text_of kind n part slot)
  unfolding text_of bytes_in entry_row
  text-none slot z = (omega arith, rw z)

  pub text-some : (slot : ℕ) {xs : List ℕ} → (slot ≡ 0 → ⊥) → xs ≡ bytes_in (plain_row kind n part (slot - 1)) → xs ≡ text_of kind n part slot
  unfolding text_of entry_row
  text-some zero z q = absurd (z refl)
  text-some (suc i) z q = let m : suc i - 1 ≡ i = omega arith in rw m at q

-- ---- how many places there are, and which item is looked at
-- an arm for rows with a bit or none, by the numbers of these marks, is none for keys
no_key : OneOf (0 ∷ 1 ∷ []) 2 → ⊥
no_key (inl e) = omega arith
no_key (inr e) = omega arith

pub rows-most : (by : Marks) (items runs : ℕ) → OneOf (0 ∷ 1 ∷ []) (tag_of the_type by) → most_by by items runs ≡ items
unfolding most_by
rows-most Bare items runs h = refl
rows-most Bits items runs h = refl
rows-most Keys items runs h = absurd (no_key h)

pub rows_seen : (by : Marks) (marks : List ℕ) (i : ℕ) → OneOf (0 ∷ 1 ∷ []) (tag_of the_type by) → seen_by by marks i ≡ i + 1
unfolding seen_by
rows_seen Bare marks i h = sym (add-one i)
rows_seen Bits marks i h = sym (add-one i)
rows_seen Keys marks i h = absurd (no_key h)

pub keys-most : {by : Marks} (items runs : ℕ) → by ≡ Keys → most_by by items runs ≡ runs
unfolding most_by
keys-most items runs e = rw e

pub keys-seen : {by : Marks} (marks : List ℕ) (i : ℕ) {slot : ℕ} → by ≡ Keys → slot ≡ slot_at marks i → seen_by by marks i ≡ slot
unfolding seen_by
keys-seen marks i e q = rw e (sym q)

-- ---- which item is shown: that which is looked at, or none
shown-seen : (by : Marks) (marks : List ℕ) (i : ℕ) → (shown_by by marks i ≡ 0 → ⊥) → shown_by by marks i ≡ seen_by by marks i
unfolding shown_by seen_by
shown-seen Bare marks i z = refl
shown-seen Keys marks i z = refl
shown-seen Bits marks i z = go (eqb (bit_at marks i) 0) refl
  where
    go : (t : Bool) → eqb (bit_at marks i) 0 ≡ t → cond t 0 (suc i) ≡ suc i
    go true e = absurd (z (rw e))
    go false e = refl

-- where none is looked at, none is shown; and only a bit hides one
pub shown-none : (by : Marks) (marks : List ℕ) (i : ℕ) → seen_by by marks i ≡ 0 → shown_by by marks i ≡ 0
unfolding shown_by seen_by
shown-none Bare marks i e = absurd (omega (arith, e))
shown-none Bits marks i e = absurd (omega (arith, e))
shown-none Keys marks i e = e

pub shown-all : (by : Marks) (marks : List ℕ) (i : ℕ) → OneOf (0 ∷ 2 ∷ []) (tag_of the_type by) → seen_by by marks i ≡ shown_by by marks i
unfolding shown_by seen_by
shown-all Bare marks i h = refl
shown-all Bits marks i h = absurd (miss (0 ∷ 2 ∷ []) 1 tt h)
shown-all Keys marks i h = refl

module _ {by : Marks} (marks : List ℕ) (i : ℕ) where
  -- a row with a bit looks at its own item
  pub bits-seen : by ≡ Bits → seen_by by marks i ≡ i + 1
  unfolding seen_by
  bits-seen e = rw e (sym (add-one i))

  pub shown-bare : by ≡ Bare → i + 1 ≡ shown_by by marks i
  unfolding shown_by
  shown-bare e = rw e (add-one i)

  pub shown-key : {r : ℕ} → by ≡ Keys → r ≡ slot_at marks i → r ≡ shown_by by marks i
  unfolding shown_by
  shown-key e q = rw e q

  module _ (e : by ≡ Bits) {bit : ℕ} (q : bit ≡ bit_at marks i) where
    pub shown-null : bit ≡ 0 → 0 ≡ shown_by by marks i
    unfolding shown_by
    shown-null z = rw (e, ← q) (simp (eq-eqb bit 0 z))

    pub shown-bit : (bit ≡ 0 → ⊥) → i + 1 ≡ shown_by by marks i
    unfolding shown_by
    shown-bit z = rw (e, ← q) (simp (ne_eqb bit 0 z) (add-one i))

-- ---- what a good place tells
good-parts : (s : Source) (marks items : List ℕ) (i : ℕ) → good_by s marks items i ≡ true
    → (i < most_by s.marks s.items s.runs) × (entry_good s.kind s.items items (seen_by s.marks marks i) ≡ true)
unfolding good_by
good-parts s marks items i g =
    let m : ℕ = most_by s.marks s.items s.runs in
    let h = both (ltb i m) (entry_good s.kind s.items items (seen_by s.marks marks i)) g in
    (ltb-true i m h.0, h.1)

module _ {s : Source} {marks items : List ℕ} (r : Ready s marks items) (i : ℕ) where
  -- a bit and a key lie in the marks
  marked : {by : Marks} → s.marks ≡ by → MarkBytes by s.items s.runs (length marks)
  marked e = rw e at r.marked

  pub bit-place : s.marks ≡ Bits → i < s.items → i < 8 * length marks
  unfolding MarkBytes
  bit-place e h = let k : s.items ≤ 8 * length marks = marked e in omega arith

  pub key-place : s.marks ≡ Keys → i < s.runs → (i < MOST_ITEMS) × (4 * i + 4 ≤ length marks)
  unfolding MarkBytes
  key-place e h = let k : 4 * s.runs ≤ length marks = marked e in omega (arith, r.short)

  module _ (g : good_by s marks items i ≡ true) where
    below : {by : Marks} → s.marks ≡ by → i < most_by by s.items s.runs
    below e = rw e at (good-parts s marks items i g).0

    pub good-bare : s.marks ≡ Bare → i < s.items
    unfolding most_by
    good-bare e = below e

    pub good-bits : s.marks ≡ Bits → i < s.items
    unfolding most_by
    good-bits e = below e

    pub good-keys : s.marks ≡ Keys → i < s.runs
    unfolding most_by
    good-keys e = below e

    module _ {slot : ℕ} (e : slot ≡ shown_by s.marks marks i) where
      pub slot-most : slot ≤ s.items
      slot-most = go slot refl
        where
          go : (k : ℕ) → slot ≡ k → slot ≤ s.items
          go zero z = omega arith
          go (suc k) z =
              let q : slot ≡ seen_by s.marks marks i = e ∙ shown-seen s.marks marks i (λ n. omega (arith, e, n)) in
              omega (arith, entry-most s.kind s.items items (seen_by s.marks marks i) (good-parts s marks items i g).1)

      pub slot-ends : (slot ≡ 0 → ⊥) → ends_good s.kind s.items items (slot - 1) ≡ true
      slot-ends z =
          let q : slot ≡ seen_by s.marks marks i = e ∙ shown-seen s.marks marks i (λ n. z (e ∙ n)) in
          entry-ends s.kind s.items items slot z (rw q (good-parts s marks items i g).1)

-- ---- the row, by the item shown
-- the size is that of the text
pub sizes : (s : Source) (marks items : List ℕ) (i : ℕ) → size_by s marks items i ≡ length (text_by s marks items i)
unfolding size_by
sizes s marks items i = refl

module _ (s : Source) (marks items : List ℕ) (i : ℕ) where
  pub part-size : (from len : ℕ) → from + len ≤ length items → take len (drop from items) ≡ text_by s marks items i → len ≡ size_by s marks items i
  unfolding size_by
  part-size from len h q = part_length items from len h q

  module _ {slot : ℕ} (e : slot ≡ shown_by s.marks marks i) where
    pub text-shown : {xs : List ℕ} → xs ≡ text_of s.kind s.items items slot → xs ≡ text_by s marks items i
    unfolding text_of text_by row_by
    text-shown q = rw (← e) q

    pub int-shown : {v : ℤ} → v ≡ int_of s.kind s.items items slot → v ≡ int_by s marks items i
    unfolding int_of int_by row_by
    int-shown q = rw (← e) q

    -- the flag is 0 of a null and 1 of an item
    pub flag-row : {f : ℕ} → (slot ≡ 0 → f ≡ 0) × (0 < slot → f ≡ 1) → f ≡ flag_by s marks items i
    unfolding flag_by row_by presence entry_row plain_row
    flag-row {f} q = go (shown_by s.marks marks i) e s.kind
      where
        go : (n : ℕ) → slot ≡ n → (k : Kind) → f ≡ presence (entry_row k s.items items n)
        go zero z k = q.0 z
        go (suc n) z (Fixed p) = q.1 (omega arith)
        go (suc n) z (Char w) = q.1 (omega arith)
        go (suc n) z (Blob text) = q.1 (omega arith)

-- ---- a place that is there, with the item that it looks at
module _ (s : Source) (marks : List ℕ) (i : ℕ) where
  abbrev most : ℕ
  most = most_by s.marks s.items s.runs

  abbrev seen : ℕ
  seen = seen_by s.marks marks i

  -- by what `seen_at` says
  module _ {r : ℕ} (past : most ≤ i → s.items < r) (there : i < most → r ≡ seen) where
    pub sees-none : s.items < r → sees_by s marks i ≡ false
    unfolding sees_by
    sees-none h = ⊎_elim
        (λ (l : i < most). rw (lt-leb seen s.items (omega (arith, there l))) (and-false (ltb i most)))
        (λ (l : most ≤ i). simp (le-ltb i most l))
        (lt-or-ge i most)

    pub sees-some : r ≤ s.items → (sees_by s marks i ≡ true) × (r ≡ seen)
    unfolding sees_by
    sees-some h = ⊎_elim
        (λ (l : i < most). (rw (lt-ltb i most l) (le-leb seen s.items (omega (arith, there l))), there l))
        (λ (l : most ≤ i). absurd (omega (arith, past l)))
        (lt-or-ge i most)

  pub sees-most : sees_by s marks i ≡ true → seen ≤ s.items
  unfolding sees_by
  sees-most h = leb-true seen s.items (both (ltb i most) (leb seen s.items) h).1

  -- it is as good as its item; and a place that is not there isn't good
  module _ (items : List ℕ) where
    pub unseen-bad : sees_by s marks i ≡ false → good_by s marks items i ≡ false
    unfolding sees_by good_by
    unseen-bad h = go (ltb i most) h
      where
        go : (b : Bool) → (b && leb seen s.items) ≡ false → (b && entry_good s.kind s.items items seen) ≡ false
        go false h = refl
        go true h = let l = leb-false seen s.items h in sym (entry_past s.kind s.items items seen (λ z. omega arith) (omega arith))

    pub seen-good : {b : Bool} → sees_by s marks i ≡ true → entry_good s.kind s.items items seen ≡ b → good_by s marks items i ≡ b
    unfolding sees_by good_by
    seen-good h e = rw (both (ltb i most) (leb seen s.items) h).0 e

-- ---- fixed kinds have no bytes
pub not-fixed : {k : Kind} (p : Primitive) → k ≡ Fixed p → Texts k → ⊥
unfolding Texts
not-fixed p e h = subst Texts e h

-- ---- blob and string, which are laid out alike
pub blob-text : (text : Bool) (n : ℕ) (part : List ℕ) (slot : ℕ) → text_of blob n part slot ≡ text_of (Blob text) n part slot
unfolding text_of bytes_in entry_row plain_row
blob-text text n part zero = refl
blob-text text n part (suc i) = refl
