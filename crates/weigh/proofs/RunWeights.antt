-- The step of the loops that weigh: what the item of a run that is looked at tells of the run's rows, whatever the kind. Assumes nothing.
use Prim.Native.Nat.{ℕ, zero, suc, ◌+◌, ◌-◌, ◌*◌, ◌≤◌, ◌<◌}
use native.Mathlib.Nat.{mul-zero, min-le_right}
use native.Mathlib.Omega.{arith}
use mathlib.Core.Bool.{Bool, true, false, cond}
use mathlib.Core.List.{List}
use mathlib.Core.Path.{◌≡◌, refl, sym, ap, subst, ◌∙◌}
use Rattle.std.specs.Prelude.{Option, Some, None}
use lib.ListN.{length, take, drop, length-take, length-drop}
use Rattle.limits.specs.Limits.{MOST_BYTES}
use Rattle.encode.specs.declared.Kind.{Kind}
use Rattle.encode.specs.Kinds.{blob}
use Rattle.encode.specs.declared.Kind.TheVariants.{Fixed, Char, Blob}
use Rattle.plain.specs.Rows.{bytes_in}
use Rattle.plain.specs.Plain.{end_at, start_at, blob_at, ends_good, plain_row}
use Rattle.rle.specs.declared.Spot.{Spot}
use Rattle.rle.specs.declared.Piece.{Piece}
use Rattle.dict.specs.Dictionary.{entry_row, entry_good}
use Rattle.rle.specs.Pieces.{run_piece}
use Rattle.source.specs.declared.Source.{Source}
use Rattle.source.specs.declared.Look.{Look}
use Rattle.source.specs.Rows.{shown_by, seen_by, text_of, size_by, good_by, piece_of, steps_of, look_by, capped, weight_of, weighed_by, Texts}
use Rattle.source.proofs.AtPlace.{part_length, entry-there, entry-some, text-none, text-some, text-shown, sizes, unseen-bad, seen-good}
use Rattle.source.proofs.Looks.{Tells, tells}
use Rattle.weigh.proofs.Weights.{Weighing, capped_small, weighing-stuck, weighing-broken, weighing-on}

-- ---- an item that is looked at, counted from 1 on
module _ (kind : Kind) (n : ℕ) (part : List ℕ) where
  -- ---- the returns of `blob_weight`
  pub weight-none : (slot : ℕ) → slot ≡ 0 → Some 0 ≡ weight_of kind n part slot
  unfolding weight_of text_of bytes_in entry_row entry_good
  weight-none slot z = rw z

  module _ (slot : ℕ) (z : slot ≡ 0 → ⊥) (h : slot - 1 < n) where
    pub weight-bad : false ≡ ends_good kind n part (slot - 1) → None ≡ weight_of kind n part slot
    unfolding weight_of
    weight-bad e = rw (← entry-there kind n part slot z h e)

    pub weight-some : true ≡ ends_good kind n part (slot - 1) → (from len : ℕ) → from + len ≤ length part
        → take len (drop from part) ≡ bytes_in (plain_row kind n part (slot - 1)) → Some len ≡ weight_of kind n part slot
    unfolding weight_of
    weight-some e from len m q = rw (← entry-there kind n part slot z h e) (ap Some (part_length part from len m (text-some kind n part slot z q)))

  -- and what it tells of an item: it is good, and so many bytes long
  abbrev Weighty : ℕ → Option ℕ → Type 0
  Weighty slot (Some len) = (entry_good kind n part slot ≡ true) × (len ≡ length (text_of kind n part slot))
  Weighty slot None = entry_good kind n part slot ≡ false

  pub weighty : (slot : ℕ) {x : Option ℕ} → x ≡ weight_of kind n part slot → Weighty slot x
  unfolding weight_of
  weighty slot e = subst (Weighty slot) (sym e) (go (entry_good kind n part slot) refl)
    where
      go : (b : Bool) → entry_good kind n part slot ≡ b → Weighty slot (cond b (Some (length (text_of kind n part slot))) None)
      go true h = (h, refl)
      go false h = h

-- ---- kinds with no ends, and those with no bytes
pub char-ends : (w n : ℕ) (part : List ℕ) (i : ℕ) → ends_good (Char w) n part i ≡ true
unfolding ends_good
char-ends w n part i = refl

pub fixed-ends : (k : Kind) → (Texts k → ⊥) → (n : ℕ) (part : List ℕ) (i : ℕ) → ends_good k n part i ≡ true
unfolding Texts ends_good
fixed-ends (Fixed p) h n part i = refl
fixed-ends (Char w) h n part i = absurd (h tt)
fixed-ends (Blob text) h n part i = absurd (h tt)

pub fixed-text : (k : Kind) → (Texts k → ⊥) → (n : ℕ) (part : List ℕ) (slot : ℕ) → 0 ≡ length (text_of k n part slot)
unfolding Texts text_of bytes_in entry_row plain_row
fixed-text (Fixed p) h n part zero = refl
fixed-text (Fixed p) h n part (suc i) = refl
fixed-text (Char w) h n part slot = absurd (h tt)
fixed-text (Blob text) h n part slot = absurd (h tt)

-- ---- blob and string, which are laid out alike
pub blob-weight : (text : Bool) (n : ℕ) (part : List ℕ) (slot : ℕ) → weight_of blob n part slot ≡ weight_of (Blob text) n part slot
unfolding weight_of entry_good ends_good text_of bytes_in entry_row plain_row
blob-weight text n part zero = refl
blob-weight text n part (suc i) = refl

-- a blob lies in the block
blob-length : (n : ℕ) (part : List ℕ) (slot : ℕ) → length (text_of blob n part slot) ≤ length part
unfolding text_of bytes_in entry_row plain_row blob_at
blob-length n part zero = omega arith
blob-length n part (suc i) =
    let a : ℕ = 4 * n + start_at part i in
    rw (length-take (end_at part i - start_at part i) (drop a part)) (simp length-drop (omega (arith, min-le_right (end_at part i - start_at part i) (length part - a))))

pub blob-few : (n : ℕ) (part : List ℕ) (slot : ℕ) {len d : ℕ} → len ≡ length (text_of blob n part slot) → d ≤ len → length part ≤ MOST_BYTES → d ≤ MOST_BYTES
blob-few n part slot g h l = omega (arith, blob-length n part slot)

-- what is shown is what is looked at, or nothing
pub shown-few : (slot : ℕ) {seen n : ℕ} → (0 < slot → slot ≡ seen) → seen ≤ n → slot ≤ n
shown-few zero f h = omega arith
shown-few (suc i) f h = omega (arith, f (omega arith))

pub len-shown : (k : Kind) (n : ℕ) (part : List ℕ) (slot : ℕ) {seen len d : ℕ} → (0 < slot → slot ≡ seen) → len ≡ length (text_of k n part seen)
    → (slot ≡ 0 → d ≡ 0) → (0 < slot → d ≡ len) → d ≡ length (text_of k n part slot)
len-shown k n part zero f g x y = let q = text-none k n part 0 refl in x refl ∙ part_length part 0 0 q.0 q.1
len-shown k n part (suc i) f g x y = y (omega arith) ∙ g ∙ ap (λ (j : ℕ). length (text_of k n part j)) (sym (f (omega arith)))

-- no bytes more
pub none_more : (k : ℕ) → 0 ≡ capped (0 + k * 0)
none_more k = rw mul-zero (sym (capped_small 0 (omega arith)))

-- ---- the step: the rows of the run are as good as its item, and as long as what it shows
module _ (s : Source) (marks items counts : List ℕ) (n : ℕ) (from : Spot) where
  abbrev pub Weighs : Spot → ℕ → ℕ → Type 0
  Weighs at left total = Weighing (good_by s marks items) (size_by s marks items) s.coded s.runs counts n from at left total

  module _ {at : Spot} {left total : ℕ} (w : Weighs at left total) (l : 0 < left) where
    pub weighs-wrong : None ≡ look_by s marks at.run (piece_of s counts at left)
        → None ≡ weighed_by (good_by s marks items) (size_by s marks items) (steps_of s counts n from)
    weighs-wrong q = go (piece_of s counts at left) refl (subst (Tells s marks at.run _) (sym q) (tells s marks at.run _))
      where
        go : (p : Option Piece) → p ≡ piece_of s counts at left → Tells s marks at.run p None
            → None ≡ weighed_by (good_by s marks items) (size_by s marks items) (steps_of s counts n from)
        go None g h = weighing-stuck w l g refl
        go (Some x) g h = weighing-broken w l g refl h.0 (unseen-bad s marks at.run items h.1)

    module _ {x : Look} (q : Some x ≡ look_by s marks at.run (piece_of s counts at left)) where
      abbrev seen : ℕ
      seen = x.seen

      abbrev k : ℕ
      k = x.rows

      abbrev t : Spot
      t = x.next

      told : Tells s marks at.run (piece_of s counts at left) (Some x)
      told = subst (Tells s marks at.run _) (sym q) (tells s marks at.run _)

      pub weighs-piece : piece_of s counts at left ≡ Some (run_piece k t)
      weighs-piece = told.0

      pub weighs-seen : (seen ≤ s.items) × (0 < seen → seen ≡ seen_by s.marks marks at.run)
      weighs-seen = (told.1, (λ h. (told.2 (told.3 h)).1))

      module _ {kind : Kind} (is : s.kind ≡ kind) where
        good : {b : Bool} → entry_good kind s.items items seen ≡ b → 0 < k → good_by s marks items at.run ≡ b
        good h m =
            let a = told.2 m in
            seen-good s marks at.run items a.0 (rw (is, ← a.1) h)

        pub weighs-bad :
            entry_good kind s.items items seen ≡ false
            → None ≡ weighed_by (good_by s marks items) (size_by s marks items) (steps_of s counts n from)
        weighs-bad h = let m : 0 < k = told.3 (entry-some kind s.items items seen h) in weighing-broken w l refl weighs-piece m (good h m)

        pub weighs-on : entry_good kind s.items items seen ≡ true
            → {slot : ℕ} → (seen ≡ seen_by s.marks marks at.run → slot ≡ shown_by s.marks marks at.run)
            → {d : ℕ} → d ≡ length (text_of kind s.items items slot) → {sum : ℕ} → sum ≡ capped (total + k * d) → Weighs t (left - k) sum
        weighs-on h {slot} f {d} g x = weighing-on w l refl weighs-piece (good h) size x
          where
            size : 0 < k → d ≡ size_by s marks items at.run
            size m =
                g ∙ ap (λ (j : Kind). length (text_of j s.items items slot)) (sym is)
                ∙ ap length (text-shown s marks items at.run (f (told.2 m).1) refl) ∙ sym (sizes s marks items at.run)
