-- The next rows from the parts of a block are those of the definition. Assumes nothing.
use Prim.Native.Nat.{ℕ, zero, suc, ◌+◌, ◌-◌, ◌≤◌}
use native.Mathlib.Omega.{arith}
use mathlib.Core.Logic.{◌⊎◌, inl, inr, ⊎_elim}
use mathlib.Core.Path.{◌≡◌, refl, sym, ap, subst, ◌∙◌}
use mathlib.Core.Bool.{Bool, true, false, cond}
use mathlib.Core.List.{List, []}
use lib.ListN.{length, take, drop}
use lib.Seq.{take-take, drop-drop}
use borrow.Author.Tests.{le-ltb}
use Rattle.limits.specs.Limits.{MOST_ITEMS}
use Rattle.encode.specs.declared.Kind.{Kind}
use Rattle.encode.proofs.Bools.{clash}
use Rattle.rle.specs.declared.Spot.{Spot}
use Rattle.rle.specs.RunLength.{counts_part}
use Rattle.rle.specs.Stepping.{spot, Steps, stuck, rows, leave, one, and_then, here, settle, next, steps_from}
use Rattle.rle.specs.Pieces.{steps_in}
use Rattle.rle.proofs.Steps.{Below, in-below}
use Rattle.dict.specs.Dictionary.{key_part}
use Rattle.nullable.specs.Nullable.{bitmap_length}
use Rattle.source.specs.declared.Marks.{Marks}
use Rattle.source.specs.declared.Marks.TheVariants.{Bare, Bits, Keys}
use Rattle.source.specs.declared.Source.{Source}
use Rattle.source.specs.Rows.{most_by, StartsBy, Starts}
use Rattle.format.specs.declared.Encoding.{Encoding}
use Rattle.format.specs.declared.Encoding.TheVariants.{Plain, Nullable, RunLength, RunLengthNullable, Dictionary}
use Rattle.format.specs.declared.Head.{Head}
use Rattle.format.specs.Opening.{counts_in}
use Rattle.anatomy.specs.declared.Parts.{Parts}
use Rattle.anatomy.specs.Tests.{no_runs}
use Rattle.anatomy.specs.Parts as P
use Rattle.anatomy.specs.Parts.{part, plain_parts, nullable_parts, bits_at, run_parts, null_run_parts, key_parts, parts_of, part_in}
use Rattle.anatomy.proofs.RightNumbers.{Runs, no-runs, plain_fits, nullable-fits, runs_of, null-runs-of, key-runs-of, keys-fit}
use Rattle.anatomy.proofs.PartsOfLists.{part_at, take-drop}
use Rattle.anatomy.proofs.RowsOfParts.{Laid, laid}
use Rattle.part_rows.specs.PartRows.{steps_by, Serves}
use Rattle.block.specs.declared.Reader.{Reader}
use Rattle.block.specs.Reading.{next_steps}
use Rattle.block.specs.Spots.{start_of, spot_by}
use Rattle.block.proofs.RecordTests.{RightRecord}

-- ---- with no runs there is no next row, whatever the counts
no_row : (c : List ℕ) (n : ℕ) (s : Spot) → steps_from 0 c (suc n) s ≡ stuck
unfolding steps_from next settle here leave one and_then
no_row c n s = simp (le-ltb s.run 0 (omega arith))

no-runs-alike : (c d : List ℕ) (n : ℕ) (s : Spot) → steps_from 0 c n s ≡ steps_from 0 d n s
unfolding steps_from
no-runs-alike c d zero s = refl
no-runs-alike c d (suc n) s = no_row c n s ∙ sym (no_row d n s)

-- ---- rows that are not coded by runs leave the place in the runs alone
unfoldable pub respot : Bool → Reader → Steps → Steps
respot coded r stuck = stuck
respot coded r (rows is t) = rows is (spot_by coded r t)

respot-coded : (r : Reader) (w : Steps) → w ≡ respot true r w
unfolding respot spot_by
respot-coded r stuck = refl
respot-coded r (rows is t) = refl

-- the counts of a dictionary's keys, as a part of the block
key_counts : (b : List ℕ) (keys counts : ℕ) → 8 + counts ≤ keys → part_in (part 20 (20 + counts)) b ≡ counts_part counts (key_part keys b)
unfolding counts_part key_part
key_counts b keys counts h =
    let q : 8 + (keys - 8) ≡ keys = omega arith in
    let inside = ap (λ (m : ℕ). drop 8 (take m (drop 12 b))) (sym q) ∙ sym (take-drop (keys - 8) 8 (drop 12 b)) in
    part_at b 20 counts
    ∙ sym (ap (λ (l : List ℕ). take counts l) inside
    ∙ take-take counts (keys - 8) (drop 8 (drop 12 b)) (omega arith)
    ∙ ap (take counts) (drop-drop 8 12 b))

-- ---- the steps
module _ (k : Kind) (r : Reader) (b : List ℕ) (n : ℕ) where
  abbrev h : Head
  h = r.head

  -- the next rows from some parts, as the definition has them
  abbrev pub Same : Encoding → Bool → Parts → Type 0
  Same e coded p = next_steps e r b n ≡ respot coded r (steps_by p (start_of coded r) b n)

  steps-plain : Same Plain false (plain_parts k r.rows r.len)
  unfolding next_steps respot steps_by plain_parts steps_in start_of spot_by
  steps-plain = refl

  steps-nullable : Same Nullable false (nullable_parts k r.rows r.len)
  unfolding next_steps respot steps_by nullable_parts steps_in start_of spot_by
  steps-nullable = refl

  -- counts that are not there, or the same counts
  runs_same :
      (e : Encoding) (c : List ℕ) → (h.runs ≡ 0) ⊎ (c ≡ counts_in e h b)
      → steps_from h.runs (counts_in e h b) n r.spot ≡ steps_from h.runs c n r.spot
  runs_same e c g = ⊎_elim
      (λ (z : h.runs ≡ 0). rw z (no-runs-alike _ c n r.spot))
      (λ (q : c ≡ counts_in e h b). rw q)
      g

  steps-runs : Same RunLength true (run_parts k r.len h)
  unfolding next_steps steps_by run_parts steps_in start_of
  steps-runs = go (no_runs h) refl
    where
      s : Source
      s = P.source k Bare h.runs h.runs true

      go : (t : Bool) → no_runs h ≡ t
          → Same RunLength true
          (cond t (P.apart s (part 0 0) (part 0 0) (part 0 0)) (P.apart s (part 8 (8 + h.counts)) (part 0 0) (part (8 + h.counts) r.len)))
      go true e = runs_same RunLength (part_in (part 0 0) b) (inl (no-runs h e).0) ∙ respot-coded r _
      go false e =
          runs_same RunLength (part_in (part 8 (8 + h.counts)) b) (inr (unfold counts_in counts_part in part_at b 8 h.counts)) ∙ respot-coded r _

  steps-null-runs : Same RunLengthNullable true (null_run_parts k r.len h)
  unfolding next_steps steps_by null_run_parts steps_in start_of
  steps-null-runs = go (no_runs h) refl
    where
      s : Source
      s = P.source k Bits h.runs h.runs true

      end : ℕ
      end = bits_at h.runs r.len

      go : (t : Bool) → no_runs h ≡ t
          → Same RunLengthNullable true
          (cond t (P.apart s (part 0 0) (part 0 0) (part 0 0))
          (P.apart s (part 8 (8 + h.counts)) (part end (end + bitmap_length h.runs)) (part (8 + h.counts) end)))
      go true e = runs_same RunLengthNullable (part_in (part 0 0) b) (inl (no-runs h e).0) ∙ respot-coded r _
      go false e =
          runs_same RunLengthNullable (part_in (part 8 (8 + h.counts)) b) (inr (unfold counts_in counts_part in part_at b 8 h.counts))
          ∙ respot-coded r _

  steps-keys : RightRecord k Dictionary r → Same Dictionary true (key_parts k r.len h)
  unfolding next_steps steps_by key_parts steps_in start_of
  steps-keys w = go (no_runs h) refl
    where
      s : Source
      s = P.source k Keys h.entries h.runs true

      room : no_runs h ≡ false → 8 + h.counts ≤ h.keys
      room e = let g = keys-fit k r.rows r.len h r.spot.run w.numbers e in omega arith

      go : (t : Bool) → no_runs h ≡ t
          → Same Dictionary true
          (cond t (P.apart s (part 0 0) (part 0 0) (part (12 + h.keys) r.len))
          (P.apart s (part 20 (20 + h.counts)) (part (20 + h.counts) (12 + h.keys)) (part (12 + h.keys) r.len)))
      go true e = runs_same Dictionary (part_in (part 0 0) b) (inl (no-runs h e).0) ∙ respot-coded r _
      go false e =
          runs_same Dictionary (part_in (part 20 (20 + h.counts)) b) (inr (unfold counts_in in key_counts b h.keys h.counts (room e)))
          ∙ respot-coded r _

unkeyed : Bare ≡ Keys → ⊥
unkeyed q = let z : ◌≡◌ {A = ℕ} 0 1 = cc in omega arith

unkeyed-bits : Bits ≡ Keys → ⊥
unkeyed-bits q = let z : ◌≡◌ {A = ℕ} 0 1 = cc in omega arith

-- ---- all that a call needs to know of the parts
abbrev most : Parts → ℕ
most p = most_by p.source.marks p.source.items p.source.runs

pub record Served (k : Kind) (e : Encoding) (r : Reader) (b : List ℕ) (n : ℕ) (p : Parts) : Type 0 where
  pub lies : Laid k e r.rows r.head b p
  pub steps : next_steps e r b n ≡ respot p.source.coded r (steps_by p (start_of p.source.coded r) b n)
  pub below : (is : List ℕ) (t : Spot) → steps_by p (start_of p.source.coded r) b n ≡ rows is t → Below (most p) is
  pub starts : Starts p.source (start_of p.source.coded r) n
  pub runs : p.source.runs ≤ MOST_ITEMS
  pub inside : p.source.coded ≡ false → (start_of p.source.coded r).run + n ≤ p.source.items
  pub keyed : p.source.coded ≡ false → p.source.marks ≡ Keys → ⊥

-- as the code asks it
pub serves : {k : Kind} {e : Encoding} {r : Reader} {b : List ℕ} {n : ℕ} {p : Parts} → Served k e r b n p → Serves p (start_of p.source.coded r) b n
serves s = record { within = s.lies.within; ready = s.lies.ready; starts = s.starts; inside = s.inside; keyed = s.keyed }

module _ (k : Kind) (r : Reader) (b : List ℕ) (n : ℕ) (long : length b ≡ r.len) (left : n ≤ r.rows - r.place) where
  abbrev h' : Head
  h' = r.head

  lying : (e : Encoding) → RightRecord k e r → Laid k e r.rows r.head b (parts_of k e r.rows r.len r.head)
  lying e w = laid k r.rows r.len r.head r.spot.run b long e w.numbers

  served-plain : RightRecord k Plain r → Served k Plain r b n (parts_of k Plain r.rows r.len r.head)
  unfolding parts_of plain_parts StartsBy start_of most_by steps_by steps_in
  served-plain w =
      let f = plain_fits k r.rows r.len r.head r.spot.run w.numbers in
      let g = w.place in
      record {
        lies = lying Plain w;
        steps = steps-plain k r b n;
        below = λ is t q. in-below false r.rows [] n (spot r.place r.spot.at r.spot.taken) q (λ z. omega arith);
        starts = omega arith;
        runs = omega arith;
        inside = λ z. omega arith;
        keyed = λ z q. unkeyed q;
      }

  served-nullable : RightRecord k Nullable r → Served k Nullable r b n (parts_of k Nullable r.rows r.len r.head)
  unfolding parts_of nullable_parts StartsBy start_of most_by steps_by steps_in
  served-nullable w =
      let f = nullable-fits k r.rows r.len r.head r.spot.run w.numbers in
      let g = w.place in
      record {
        lies = lying Nullable w;
        steps = steps-nullable k r b n;
        below = λ is t q. in-below false r.rows [] n (spot r.place r.spot.at r.spot.taken) q (λ z. omega arith);
        starts = omega arith;
        runs = omega arith;
        inside = λ z. omega arith;
        keyed = λ z q. unkeyed-bits q;
      }

  -- rows that are coded by runs
  coded-served :
      (e : Encoding) (p : Parts) (m : Marks) (items : ℕ) → p.source ≡ P.source k m items r.head.runs true
      → most_by m items r.head.runs ≡ r.head.runs → Runs r.head r.spot.run → Laid k e r.rows r.head b p
      → Same k r b n e true p → Served k e r b n p
  unfolding steps_by StartsBy start_of
  coded-served e p m items q full f l st =
      let c : p.source.coded ≡ true = ap (λ s. s.coded) q in
      let u : p.source.runs ≡ r.head.runs = ap (λ s. s.runs) q in
      let w : most p ≡ r.head.runs = ap (λ s. most_by s.marks s.items s.runs) q ∙ full in
      record {
        lies = l;
        steps = st ∙ ap (λ (x : Bool). respot x r (steps_by p (start_of x r) b n)) (sym c);
        below = λ is t g. subst (λ (x : ℕ). Below x is) (u ∙ sym w) (in-below _ _ _ n _ g (λ z. clash (sym c ∙ z)));
        starts = rw (c, u) f.inside;
        runs = rw u f.runs;
        inside = λ z. clash (sym c ∙ z);
        keyed = λ z. clash (sym c ∙ z);
      }

  source-runs : (run_parts k r.len h').source ≡ P.source k Bare h'.runs h'.runs true
  unfolding run_parts
  source-runs = go (no_runs h')
    where
      s : Source
      s = P.source k Bare h'.runs h'.runs true

      go : (t : Bool)
          → (cond t (P.apart s (part 0 0) (part 0 0) (part 0 0)) (P.apart s (part 8 (8 + h'.counts)) (part 0 0) (part (8 + h'.counts) r.len))).source ≡ s
      go true = refl
      go false = refl

  source-null-runs : (null_run_parts k r.len h').source ≡ P.source k Bits h'.runs h'.runs true
  unfolding null_run_parts
  source-null-runs = go (no_runs h')
    where
      s : Source
      s = P.source k Bits h'.runs h'.runs true

      end : ℕ
      end = bits_at h'.runs r.len

      go : (t : Bool)
          → (cond t (P.apart s (part 0 0) (part 0 0) (part 0 0))
          (P.apart s (part 8 (8 + h'.counts)) (part end (end + bitmap_length h'.runs)) (part (8 + h'.counts) end))).source ≡ s
      go true = refl
      go false = refl

  source-keys : (key_parts k r.len h').source ≡ P.source k Keys h'.entries h'.runs true
  unfolding key_parts
  source-keys = go (no_runs h')
    where
      s : Source
      s = P.source k Keys h'.entries h'.runs true

      go : (t : Bool)
          → (cond t (P.apart s (part 0 0) (part 0 0) (part (12 + h'.keys) r.len))
          (P.apart s (part 20 (20 + h'.counts)) (part (20 + h'.counts) (12 + h'.keys)) (part (12 + h'.keys) r.len))).source ≡ s
      go true = refl
      go false = refl

  -- THE PARTS SERVE: for every encoding
  pub served : (e : Encoding) → RightRecord k e r → Served k e r b n (parts_of k e r.rows r.len r.head)
  unfolding most_by parts_of
  served Plain w = served-plain w
  served Nullable w = served-nullable w
  served RunLength w =
      coded-served RunLength (run_parts k r.len h') Bare h'.runs source-runs refl
      (runs_of k r.rows r.len h' r.spot.run w.numbers) (lying RunLength w) (steps-runs k r b n)
  served RunLengthNullable w =
      coded-served RunLengthNullable (null_run_parts k r.len h') Bits h'.runs source-null-runs refl
      (null-runs-of k r.rows r.len h' r.spot.run w.numbers) (lying RunLengthNullable w) (steps-null-runs k r b n)
  served Dictionary w =
      coded-served Dictionary (key_parts k r.len h') Keys h'.entries source-keys refl
      (key-runs-of k r.rows r.len h' r.spot.run w.numbers) (lying Dictionary w) (steps-keys k r b n w)
