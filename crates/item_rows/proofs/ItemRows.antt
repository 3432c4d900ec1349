-- Items of a fixed kind that are not coded by runs: read, flagged and blanked. Assumes nothing.
use Prim.Native.Nat.{ℕ, suc, ◌+◌, ◌*◌, ◌≤◌, ◌<◌}
use native.Mathlib.Nat.{zero-add, add-zero, add-mul, mul-le-mul_right}
use native.Mathlib.Omega.{arith}
use mathlib.Core.Path.{◌≡◌, refl, sym, ap, ◌∙◌, fun_ext}
use mathlib.Core.Bool.{Bool, true, false, cond, ◌&&◌}
use mathlib.Core.List.{List, ◌++◌, map}
use lib.Dec.{ltb, eqb}
use lib.IntN.{ℤ, pos}
use lib.ListN.{length, drop, get_or, get_or-append}
use lib.Seq.{sets, drop_at, length-sets}
use borrow.Author.Tests.{lt-ltb}
use Rattle.area.specs.Area.{over}
use Rattle.area.proofs.Laws.{over-sets}
use Rattle.encode.specs.Kinds.{width_of}
use Rattle.encode.specs.declared.Primitive.{Primitive}
use Rattle.encode.specs.declared.Kind.TheVariants.{Fixed}
use Rattle.plain.specs.Rows.{Row, int_in}
use Rattle.plain.specs.Plain.{all_of, places, fixed_at, plain_row, least_bytes, ends_good}
use Rattle.plain.proofs.TextItems.{all-places}
use Rattle.plain.proofs.Places.{length_over, get_d_over, over-same, over-shift}
use Rattle.nullable.specs.Nullable.{bit_at, presence}
use Rattle.nullable.specs.Blanks.{blank_at}
use Rattle.rle.specs.declared.Spot.{Spot}
use Rattle.rle.specs.Stepping.{spot}
use Rattle.dict.specs.Dictionary.{entry_row, entry_good}
use Rattle.source.specs.declared.Marks.{Marks}
use Rattle.source.specs.declared.Marks.TheVariants.{Bare, Bits, Keys}
use Rattle.source.specs.declared.Source.{Source}
use Rattle.source.specs.Rows.{shown_by, seen_by, most_by, row_by, int_by, flag_by, good_by}
use Rattle.anatomy.specs.declared.Parts.{Parts}
use Rattle.anatomy.specs.Parts.{marks_in, items_in}
use Rattle.part_rows.specs.PartRows.{places_in, good_in, value_in, flag_in, values_given, flags_given, Serves}
use Rattle.part_rows.proofs.Places.{Read}
use Rattle.part_rows.proofs.FlagRows.{alone, alone-runs}

front_of : {A : Type 0} (d xs : List A) (n : ℕ) → length xs ≡ n → n ≤ length d → sets d 0 xs ≡ xs ++ drop n d
unfolding over
front_of d xs n e h = over-sets xs d 0 (omega arith) ∙ rw (zero-add, e)

front-again : {A : Type 0} (d xs ys : List A) (n : ℕ) → length xs ≡ n → length ys ≡ n → n ≤ length d → sets (sets d 0 xs) 0 ys ≡ sets d 0 ys
front-again {A} d xs ys n ex ey h =
    let l : n ≤ length (sets d 0 xs) = (let q = length-sets d 0 xs in omega arith) in
    let m : drop n (sets d 0 xs) ≡ drop n d = ap (drop n) (front_of d xs n ex h) ∙ drop_at xs (drop n d) n ex in
    front_of (sets d 0 xs) ys n ey l ∙ ap (λ (t : List A). ys ++ t) m ∙ sym (front_of d ys n ey h)

front_at : {A : Type 0} (d xs : List A) (n j : ℕ) (z : A) → length xs ≡ n → n ≤ length d → j < n → get_or (sets d 0 xs) j z ≡ get_or xs j z
front_at d xs n j z e h l = rw (front_of d xs n e h) (get_or-append xs (drop n d) z j (omega arith))

-- an item that is there is good, where the kind has no field that can be wrong
item-good :
    (s : Source) (marks items : List ℕ) → (s.marks ≡ Keys → ⊥) → ((j : ℕ) → ends_good s.kind s.items items j ≡ true)
    → (i : ℕ) → i < s.items → good_by s marks items i ≡ true
unfolding good_by most_by seen_by entry_good
item-good s marks items plain fine i h = go s.marks plain
  where
    go : (m : Marks) → (m ≡ Keys → ⊥) → (ltb i (most_by m s.items s.runs) && entry_good s.kind s.items items (seen_by m marks i)) ≡ true
    go Bare z = simp (lt-ltb i s.items h, fine i)
    go Bits z = simp (lt-ltb i s.items h, fine i)
    go Keys z = absurd (z refl)

module _ (s : Source) (marks items : List ℕ) (q : Primitive) (fixed : s.kind ≡ Fixed q) (plain : s.marks ≡ Keys → ⊥) (i : ℕ) where
  item-value : cond (eqb (flag_by s marks items i) 0) (pos 0) (fixed_at q items i) ≡ int_by s marks items i
  unfolding flag_by int_by row_by shown_by entry_row plain_row presence int_in
  item-value = rw fixed (go s.marks plain)
    where
      -- the row that an item shows
      shown : ℕ → Row
      shown j = entry_row (Fixed q) s.items items j

      go : (m : Marks) → (m ≡ Keys → ⊥)
          → cond (eqb (presence (shown (shown_by m marks i))) 0) (pos 0) (fixed_at q items i) ≡ int_in (shown (shown_by m marks i))
      go Bare z = refl
      go Bits z = bit (eqb (bit_at marks i) 0)
        where
          bit : (x : Bool) → cond (eqb (presence (shown (cond x 0 (suc i)))) 0) (pos 0) (fixed_at q items i) ≡ int_in (shown (cond x 0 (suc i)))
          bit true = refl
          bit false = refl
      go Keys z = absurd (z refl)

  -- where there are no marks, an item is a value
  bare-value : s.marks ≡ Bare → fixed_at q items i ≡ int_by s marks items i
  unfolding int_by row_by shown_by entry_row plain_row int_in
  bare-value e = rw (fixed, e)

module _ (p : Parts) (from : Spot) (b : List ℕ) (n : ℕ) (s : Serves p from b n) (c : p.source.coded ≡ false) where
  -- all of the rows are good, and lie in the block
  pub all-good : ((j : ℕ) → ends_good p.source.kind p.source.items (items_in p b) j ≡ true) → all_of (good_in p b) (places n from.run) ≡ true
  all-good fine =
      all-places _ p.source.items n from.run (s.inside c)
      (λ j h. item-good p.source (marks_in p b) (items_in p b) (s.keyed c) fine j h)

  pub all_there : (w : ℕ) → least_bytes p.source.kind p.source.items ≡ p.source.items * w → from.run * w + n * w ≤ length (items_in p b)
  all_there w e =
      let i = s.inside c in
      let l : least_bytes p.source.kind p.source.items ≤ length (items_in p b) = s.ready.whole in
      let m : (from.run + n) * w ≤ p.source.items * w = mul-le-mul_right w i in
      let d : (from.run + n) * w ≡ from.run * w + n * w = add-mul from.run n w in
      omega arith

  -- so the code has what a look would have told
  pub all_read :
      ((j : ℕ) → ends_good p.source.kind p.source.items (items_in p b) j ≡ true)
      → Read p from b n (places n from.run) (spot (from.run + n) from.at from.taken)
  all_read fine = record { steps = alone p from b n c; right = all-good fine }

module _
    (p : Parts) (from : Spot) (b : List ℕ) (n : ℕ) (s : Serves p from b n) (c : p.source.coded ≡ false) (q : Primitive)
    (fixed : p.source.kind ≡ Fixed q)
  where
    pub items-read : Read p from b n (places n from.run) (spot (from.run + n) from.at from.taken)
    unfolding ends_good
    items-read = all_read p from b n s c (λ j. rw fixed)

    pub items-room : from.run * width_of q + n * width_of q ≤ length (items_in p b)
    unfolding least_bytes
    items-room = all_there p from b n s c (width_of q) (rw fixed)

    -- the rows' items, and what the definition says of them
    abbrev here : List ℕ
    here = places n from.run

    abbrev stored : List ℤ
    stored = map (fixed_at q (items_in p b)) here

    module _
        (vs v₁ v₂ : List ℤ) (fs f₁ : List ℕ) (hv : n ≤ length vs) (hf : n ≤ length fs) (ev : v₁ ≡ sets vs 0 stored)
        (ef : f₁ ≡ sets fs 0 (map (flag_in p b) here)) (e : v₂ ≡ sets v₁ 0 (map (blank_at f₁ v₁) (places n 0)))
      where
        flag_at : (j : ℕ) → j < n → get_or f₁ j 0 ≡ flag_in p b (from.run + j)
        flag_at j h =
            let f = front_at fs (map (flag_in p b) here) n j 0 (length_over (flag_in p b) n from.run) hf h in
            rw ef (f ∙ get_d_over (flag_in p b) n from.run j 0 h)

        value-at : (j : ℕ) → j < n → get_or v₁ j (pos 0) ≡ fixed_at q (items_in p b) (from.run + j)
        value-at j h =
            let f = front_at vs stored n j (pos 0) (length_over (fixed_at q (items_in p b)) n from.run) hv h in
            rw ev (f ∙ get_d_over (fixed_at q (items_in p b)) n from.run j (pos 0) h)

        blank-at : (j : ℕ) → j < n → blank_at f₁ v₁ j ≡ value_in p b (from.run + j)
        unfolding blank_at
        blank-at j h =
            rw (flag_at j h, value-at j h) (item-value p.source (marks_in p b) (items_in p b) q fixed (s.keyed c) (from.run + j))

        blank-all : map (blank_at f₁ v₁) (places n 0) ≡ map (value_in p b) here
        blank-all =
            over-same (blank_at f₁ v₁) (λ j. value_in p b (from.run + j)) n 0 (λ j l h. blank-at j (omega arith))
            ∙ sym (over-shift (value_in p b) n from.run 0)
            ∙ ap (λ (x : ℕ). map (value_in p b) (places n x)) (add-zero from.run)

        blanked : v₂ ≡ sets vs 0 (map (value_in p b) here)
        blanked =
            e
            ∙ ap (sets v₁ 0) blank-all
            ∙ ap (λ (l : List ℤ). sets l 0 (map (value_in p b) here)) ev
            ∙ front-again vs stored (map (value_in p b) here) n (length_over _ n from.run) (length_over _ n from.run) hv

    -- the same, of the rows that the steps give
    pub blanked-runs :
        (vs v₁ v₂ : List ℤ) (fs f₁ : List ℕ) → n ≤ length vs → n ≤ length fs → v₁ ≡ sets vs 0 stored → f₁ ≡ sets fs 0 (flags_given p from b n)
        → v₂ ≡ sets v₁ 0 (map (blank_at f₁ v₁) (places n 0)) → v₂ ≡ sets vs 0 (values_given p from b n)
    blanked-runs vs v₁ v₂ fs f₁ hv hf ev ef e =
        let w : places_in p from b n ≡ here = alone-runs p from b n c in
        blanked vs v₁ v₂ fs f₁ hv hf ev (ef ∙ ap (λ (l : List ℕ). sets fs 0 (map (flag_in p b) l)) w) e
        ∙ ap (λ (l : List ℕ). sets vs 0 (map (value_in p b) l)) (sym w)

    pub bare-runs : p.source.marks ≡ Bare → (vs v₁ : List ℤ) → v₁ ≡ sets vs 0 stored → v₁ ≡ sets vs 0 (values_given p from b n)
    bare-runs e vs v₁ h =
        let g : fixed_at q (items_in p b) ≡ value_in p b =
        fun_ext (λ i. bare-value p.source (marks_in p b) (items_in p b) q fixed (s.keyed c) i e) in
        rw (alone-runs p from b n c, ← g) h
