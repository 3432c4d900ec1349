-- What the code writes of rows that are there and good is what a filling of them says. Assumes nothing.
use Prim.Native.Nat.{ℕ, ◌^◌, ◌≤◌, ◌<◌}
use native.Mathlib.Omega.{arith}
use mathlib.Core.Path.{◌≡◌, refl, sym, ap, ◌∙◌}
use mathlib.Core.Bool.{Bool, true, false, cond, ◌||◌}
use mathlib.Core.List.{List, [], ◌∷◌, map}
use lib.Dec.{ltb}
use lib.IntN.{ℤ}
use lib.ListN.{length, length-map}
use lib.Seq.{sets}
use borrow.Author.Tests.{lt-ltb, le-ltb, ltb-true, ltb-false}
use Rattle.std.specs.Prelude.{Result, Ok}
use Rattle.limits.specs.Limits.{MOST_GIVEN}
use Rattle.limits.specs.Refusals.{ROOM}
use Rattle.area.specs.Area.{over}
use Rattle.area.proofs.Laws.{over-sets}
use Rattle.encode.proofs.Bools.{or-none}
use Rattle.encode.specs.declared.Primitive.{Primitive}
use Rattle.encode.specs.declared.Kind.{Kind}
use Rattle.encode.specs.declared.Kind.TheVariants.{Fixed, Char, Blob}
use Rattle.plain.specs.Rows.{Row, int_in, bytes_in}
use Rattle.plain.specs.Plain.{joined, ends_from}
use Rattle.nullable.specs.Nullable.{presence}
use Rattle.rle.specs.declared.Spot.{Spot}
use Rattle.source.specs.declared.Source.{Source}
use Rattle.source.specs.Rows.{row_by, text_by, size_by, int_by, flag_by, sum_of, capped, Texts}
use Rattle.source.proofs.Folds.{length-joined, length-ends}
use Rattle.anatomy.specs.declared.Parts.{Parts}
use Rattle.anatomy.specs.Parts.{marks_in, items_in}
use Rattle.part_rows.specs.PartRows.{steps_by, places_in, row_in, size_in, value_in, flag_in, text_in, values_given, flags_given, ends_given, bytes_given, weight_given}
use Rattle.part_rows.proofs.Places.{Read, runs-are, length-steps}
use Rattle.fill.specs.declared.Filled.{Filled}
use Rattle.fill.specs.Areas.{Areas, areas, is_bytes, short, filled_in, given_bytes}
use Rattle.fill.specs.Filling.{Filling, filled, refused_filling, next_by, write_rows, filling_by, filling}

-- ---- rows from what their parts say
map-map :
    {A B C : Type 0} (f : B → C) (g : A → B) (h : A → C) → ((x : A) → f (g x) ≡ h x) → (l : List A) → map f (map g l) ≡ map h l
map-map f g h e [] = refl
map-map {A} {B} {C} f g h e (x ∷ xs) = ap (λ (y : C). y ∷ map f (map g xs)) (e x) ∙ ap (λ (ys : List C). h x ∷ ys) (map-map f g h e xs)

joined-map : {A B : Type 0} (f : B → List ℕ) (g : A → B) (h : A → List ℕ) → ((x : A) → f (g x) ≡ h x) → (l : List A) → joined f (map g l) ≡ joined h l
unfolding joined
joined-map f g h e [] = refl
joined-map f g h e (x ∷ xs) = rw (e x, joined-map f g h e xs)

module _ (s : Source) (marks items : List ℕ) where
  int-by : (i : ℕ) → int_in (row_by s marks items i) ≡ int_by s marks items i
  unfolding int_by
  int-by i = refl

  flag_by_lem : (i : ℕ) → presence (row_by s marks items i) ≡ flag_by s marks items i
  unfolding flag_by
  flag_by_lem i = refl

  text-by : (i : ℕ) → bytes_in (row_by s marks items i) ≡ text_by s marks items i
  unfolding text_by
  text-by i = refl

  size-by : (i : ℕ) → size_by s marks items i ≡ length (text_by s marks items i)
  unfolding size_by
  size-by i = refl

-- ---- rows that are there and good, written
write-short : (k : Kind) (rs : List Row) (t : Spot) (a : Areas) → short k rs a ≡ true → refused_filling ROOM a ≡ write_rows k rs t a
unfolding write_rows
write-short k rs t a h = rw h

abbrev pub written : Kind → List Row → Spot → Areas → Filling
written k rs t a = record { answer = Ok (filled (given_bytes k rs) t); areas = filled_in k rs a }

write_done : (k : Kind) (rs : List Row) (t : Spot) (a : Areas) → short k rs a ≡ false → written k rs t a ≡ write_rows k rs t a
unfolding write_rows
write_done k rs t a h = rw h

or_left : (x y : Bool) → x ≡ true → (x || y) ≡ true
or_left x y h = rw h

or_right : (x y : Bool) → y ≡ true → (x || y) ≡ true
or_right true y h = refl
or_right false y h = h

capped-below : (t : ℕ) → (capped t ≤ t) × (capped t ≤ 4294967296)
unfolding capped
capped-below t = go (ltb 4294967296 t) refl
  where
    go : (x : Bool) → ltb 4294967296 t ≡ x → (cond x 4294967296 t ≤ t) × (cond x 4294967296 t ≤ 4294967296)
    go true e = let h = ltb-true 4294967296 t e in (omega arith, omega arith)
    go false e = let h = ltb-false 4294967296 t e in (omega arith, h)

capped_is : (t : ℕ) → capped t ≤ MOST_GIVEN → capped t ≡ t
unfolding capped
capped_is t h = go (ltb 4294967296 t) h
  where
    go : (x : Bool) → cond x 4294967296 t ≤ MOST_GIVEN → cond x 4294967296 t ≡ t
    go true q = absurd (omega arith)
    go false q = refl

-- an area with the front replaced
front : {A : Type 0} (d vs : List A) (n : ℕ) → length vs ≡ n → n ≤ length d → sets d 0 vs ≡ over d 0 vs
front d vs n e h = over-sets vs d 0 (omega arith)

-- an answer that is known, with the areas of its kind
abbrev pub FixedTold : Result Filled ℕ → List ℤ → List ℕ → Filling → Type 0
FixedTold g vs fs y = (g ≡ y.answer) × ((vs ≡ y.areas.values) × (fs ≡ y.areas.flags))

abbrev pub TextTold : Result Filled ℕ → List ℕ → List ℕ → List ℕ → Filling → Type 0
TextTold g fs es bs y = (g ≡ y.answer) × ((fs ≡ y.areas.flags) × ((es ≡ y.areas.ends) × (bs ≡ y.areas.bytes)))

pub fixed_told : {x y : Filling} (g : Result Filled ℕ) → g ≡ x.answer → x ≡ y → FixedTold g x.areas.values x.areas.flags y
fixed_told g h e = (h ∙ ap (λ (z : Filling). z.answer) e, (ap (λ (z : Filling). z.areas.values) e, ap (λ (z : Filling). z.areas.flags) e))

pub text-told : {x y : Filling} (g : Result Filled ℕ) → g ≡ x.answer → x ≡ y → TextTold g x.areas.flags x.areas.ends x.areas.bytes y
text-told g h e =
    let a : (z : Filling) → Areas = λ z. z.areas in
    (h ∙ ap (λ (z : Filling). z.answer) e, (ap (λ z. (a z).flags) e, (ap (λ z. (a z).ends) e, ap (λ z. (a z).bytes) e)))

module _ {p : Parts} {from : Spot} {b : List ℕ} {n : ℕ} {is : List ℕ} {t : Spot} (read : Read p from b n is t) where
  abbrev k : Kind
  k = p.source.kind

  abbrev rs : List Row
  rs = map (row_in p b) is

  abbrev at : Spot
  at = next_by p.source.coded from t

  many : length is ≡ n
  many = length-steps p from b n read.steps

  long : length rs ≡ n
  long = length-map is (row_in p b) ∙ many

  runs : places_in p from b n ≡ is
  runs = runs-are (steps_by p from b n) read.steps

  of-rows : (a : Areas) → write_rows k rs at a ≡ filling p from b n a
  unfolding filling_by
  of-rows a = rw read.steps (rw read.right refl)

  abbrev bytes-all : ℕ
  bytes-all = length (joined bytes_in rs)

  total : bytes-all ≡ sum_of (size_in p b) is
  total =
      ap length (joined-map bytes_in (row_in p b) (text_in p b) (text-by p.source (marks_in p b) (items_in p b)) is)
      ∙ length-joined (text_in p b) (size_in p b) (size-by p.source (marks_in p b) (items_in p b)) is

  -- the flags, with their front replaced
  flags-are : (d : List ℕ) {fs : List ℕ} → n ≤ length d → fs ≡ sets d 0 (flags_given p from b n) → fs ≡ over d 0 (map presence rs)
  flags-are d h e =
      let said : map presence rs ≡ map (flag_in p b) is = map-map presence _ _ (flag_by_lem p.source (marks_in p b) (items_in p b)) is in
      e
      ∙ ap (λ (l : List ℕ). sets d 0 (map (flag_in p b) l)) runs
      ∙ front d _ n (length-map is _ ∙ many) h
      ∙ ap (over d 0) (sym said)

  values-are : (d : List ℤ) {vs : List ℤ} → n ≤ length d → vs ≡ sets d 0 (values_given p from b n) → vs ≡ over d 0 (map int_in rs)
  values-are d h e =
      let said : map int_in rs ≡ map (value_in p b) is = map-map int_in _ _ (int-by p.source (marks_in p b) (items_in p b)) is in
      e
      ∙ ap (λ (l : List ℕ). sets d 0 (map (value_in p b) l)) runs
      ∙ front d _ n (length-map is _ ∙ many) h
      ∙ ap (over d 0) (sym said)

  ends-are : (d : List ℕ) {es : List ℕ} → n ≤ length d → es ≡ sets d 0 (ends_given p from b n) → es ≡ over d 0 (ends_from 0 (map bytes_in rs))
  ends-are d h e =
      let said : map bytes_in rs ≡ map (text_in p b) is = map-map bytes_in _ _ (text-by p.source (marks_in p b) (items_in p b)) is in
      e
      ∙ ap (λ (l : List ℕ). sets d 0 (ends_from 0 (map (text_in p b) l))) runs
      ∙ front d _ n (length-ends 0 _ ∙ length-map is _ ∙ many) h
      ∙ ap (λ (l : List (List ℕ)). over d 0 (ends_from 0 l)) (sym said)

  bytes-are : (d : List ℕ) {bs : List ℕ} → bytes-all ≤ length d → bs ≡ sets d 0 (bytes_given p from b n) → bs ≡ over d 0 (joined bytes_in rs)
  bytes-are d h e =
      let said : joined bytes_in rs ≡ joined (text_in p b) is = joined-map bytes_in _ _ (text-by p.source (marks_in p b) (items_in p b)) is in
      e
      ∙ ap (λ (l : List ℕ). sets d 0 (joined (text_in p b) l)) runs
      ∙ front d _ bytes-all (ap length (sym said)) h
      ∙ ap (over d 0) (sym said)

  module _ (a : Areas) where
    pub flags-short : length a.flags < n → refused_filling ROOM a ≡ filling p from b n a
    unfolding short
    flags-short h = write-short k rs at a (or_left (ltb (length a.flags) (length rs)) _ (rw long (lt-ltb _ _ h))) ∙ of-rows a

    module _ (fixed : is_bytes p.source.kind ≡ false) where
      short-fixed : short k rs a ≡ (ltb (length a.flags) n || ltb (length a.values) n)
      unfolding short
      short-fixed = rw (fixed, long)

      pub values-short : length a.values < n → refused_filling ROOM a ≡ filling p from b n a
      values-short h = write-short k rs at a (short-fixed ∙ or_right (ltb (length a.flags) n) _ (lt-ltb _ _ h)) ∙ of-rows a

      pub values-written :
          (next : Spot) → next ≡ next_by p.source.coded from t → {vs : List ℤ} {fs : List ℕ} → n ≤ length a.values → n ≤ length a.flags
          → vs ≡ sets a.values 0 (values_given p from b n) → fs ≡ sets a.flags 0 (flags_given p from b n)
          → FixedTold (Ok (filled 0 next)) vs fs (filling p from b n a)
      unfolding filled_in given_bytes
      values-written next on {vs} {fs} hv hf ev ef =
          let v : vs ≡ over a.values 0 (map int_in rs) = values-are a.values hv ev in
          let f : fs ≡ over a.flags 0 (map presence rs) = flags-are a.flags hf ef in
          let w = write_done k rs at a (short-fixed ∙ or-none (le-ltb _ _ hf) (le-ltb _ _ hv)) ∙ of-rows a in
          rw (v, f, on) (alike w)
        where
          alike : written k rs at a ≡ filling p from b n a
              → FixedTold (Ok (filled 0 at)) (over a.values 0 (map int_in rs)) (over a.flags 0 (map presence rs))
              (filling p from b n a)
          alike q =
              fixed_told
              {x = record {
                answer = Ok (filled 0 at);
                areas = areas (over a.values 0 (map int_in rs)) (over a.flags 0 (map presence rs)) a.ends a.bytes;
              }}
              _ refl (rw fixed at q)

    module _ (texts : is_bytes p.source.kind ≡ true) where
      abbrev lacking : Bool
      lacking = ltb (length a.ends) n || ltb (length a.bytes) bytes-all || ltb MOST_GIVEN bytes-all

      short-texts : short k rs a ≡ (ltb (length a.flags) n || lacking)
      unfolding short
      short-texts = rw (texts, long)

      refused-texts : lacking ≡ true → refused_filling ROOM a ≡ filling p from b n a
      refused-texts h = write-short k rs at a (short-texts ∙ or_right (ltb (length a.flags) n) _ h) ∙ of-rows a

      pub ends-short : length a.ends < n → refused_filling ROOM a ≡ filling p from b n a
      ends-short h =
          refused-texts
          (or_left (ltb (length a.ends) n || ltb (length a.bytes) bytes-all) _ (or_left (ltb (length a.ends) n) _ (lt-ltb _ _ h)))

      module _ (w : ℕ) (weight : w ≡ capped (sum_of (size_in p b) is)) where
        pub bytes-short : length a.bytes < w → refused_filling ROOM a ≡ filling p from b n a
        bytes-short h =
            let c = capped-below (sum_of (size_in p b) is) in
            let z = total in
            let q : length a.bytes < bytes-all = omega arith in
            refused-texts
            (or_left (ltb (length a.ends) n || ltb (length a.bytes) bytes-all) _ (or_right (ltb (length a.ends) n) _ (lt-ltb _ _ q)))

        pub total-high : MOST_GIVEN < w → refused_filling ROOM a ≡ filling p from b n a
        total-high h =
            let c = capped-below (sum_of (size_in p b) is) in
            let z = total in
            let q : MOST_GIVEN < bytes-all = omega arith in
            refused-texts (or_right (ltb (length a.ends) n || ltb (length a.bytes) bytes-all) _ (lt-ltb _ _ q))

        -- a total that is not above the cap is the sum itself
        weight_is : w ≤ MOST_GIVEN → w ≡ bytes-all
        weight_is h = weight ∙ capped_is (sum_of (size_in p b) is) (omega arith) ∙ sym total

        pub texts-written :
            (next : Spot) → next ≡ next_by p.source.coded from t → {fs es bs : List ℕ} → n ≤ length a.flags → n ≤ length a.ends
            → w ≤ length a.bytes → w ≤ MOST_GIVEN → fs ≡ sets a.flags 0 (flags_given p from b n) → es ≡ sets a.ends 0 (ends_given p from b n)
            → bs ≡ sets a.bytes 0 (bytes_given p from b n)
            → TextTold (Ok (filled w next)) fs es bs (filling p from b n a)
        unfolding filled_in given_bytes
        texts-written next on {fs} {es} {bs} hf he hb hw ef ee eb =
            let sum : w ≡ bytes-all = weight_is hw in
            let hb' : bytes-all ≤ length a.bytes = omega arith in
            let hw' : bytes-all ≤ MOST_GIVEN = omega arith in
            let f : fs ≡ over a.flags 0 (map presence rs) = flags-are a.flags hf ef in
            let e : es ≡ over a.ends 0 (ends_from 0 (map bytes_in rs)) = ends-are a.ends he ee in
            let y : bs ≡ over a.bytes 0 (joined bytes_in rs) = bytes-are a.bytes hb' eb in
            let room = short-texts ∙ or-none (le-ltb _ _ hf) (or-none (or-none (le-ltb _ _ he) (le-ltb _ _ hb')) (le-ltb _ _ hw')) in
            rw (f, e, y, on, sum) (alike (write_done k rs at a room ∙ of-rows a))
          where
            alike : written k rs at a ≡ filling p from b n a
                → TextTold (Ok (filled bytes-all at)) (over a.flags 0 (map presence rs))
                (over a.ends 0 (ends_from 0 (map bytes_in rs))) (over a.bytes 0 (joined bytes_in rs)) (filling p from b n a)
            alike q =
                text-told
                {x = record {
                  answer = Ok (filled bytes-all at);
                  areas = record {
                    values = a.values;
                    flags = over a.flags 0 (map presence rs);
                    ends = over a.ends 0 (ends_from 0 (map bytes_in rs));
                    bytes = over a.bytes 0 (joined bytes_in rs);
                  };
                }}
                _ refl (rw texts at q)

  -- the bytes in all, for those who write them
  pub sum_fits :
      (w room : ℕ) → w ≡ capped (sum_of (size_in p b) is) → w ≤ room → w ≤ MOST_GIVEN
      → (weight_given p from b n ≤ room) × (weight_given p from b n < 2 ^ 32)
  sum_fits w room e h hw =
      let c : capped (sum_of (size_in p b) is) ≡ sum_of (size_in p b) is = capped_is _ (omega arith) in
      rw runs (omega arith, omega arith)

-- rows that are coded by runs move the place in them
pub moves : (p : Parts) (from t : Spot) → p.source.coded ≡ true → t ≡ next_by p.source.coded from t
unfolding next_by
moves p from t c = rw c

-- and rows that are not coded by runs leave it alone
pub stays : (p : Parts) (from t : Spot) → p.source.coded ≡ false → from ≡ next_by p.source.coded from t
unfolding next_by
stays p from t c = rw c

-- the kinds
pub is-fixed : (k : Kind) (q : Primitive) → k ≡ Fixed q → is_bytes k ≡ false
unfolding is_bytes
is-fixed k q e = rw e

pub is-char : (k : Kind) (w : ℕ) → k ≡ Char w → is_bytes k ≡ true
unfolding is_bytes
is-char k w e = rw e

pub is-text : (k : Kind) → is_bytes k ≡ true → Texts k
unfolding is_bytes Texts
is-text (Fixed p) h = let z : ◌≡◌ {A = ℕ} 0 1 = cc in absurd (omega arith)
is-text (Char w) h = tt
is-text (Blob text) h = tt
