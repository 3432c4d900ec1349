-- The parts of a block whose numbers are right: they lie in the block and are long enough, and the rows that the code reads from them are those of the
-- definition. Assumes nothing.
use Prim.Native.Nat.{ℕ, suc, ◌+◌, ◌-◌, ◌*◌, ◌≤◌, ◌<◌}
use native.Mathlib.Nat.{zero-mul}
use native.Mathlib.Omega.{arith}
use mathlib.Core.Path.{◌≡◌, refl, sym, ◌∙◌}
use mathlib.Core.Bool.{Bool, true, false, cond, ◌&&◌}
use mathlib.Core.List.{List}
use lib.Dec.{ltb, eqb}
use lib.ListN.{length, take, drop, length-drop}
use lib.Seq.{drop-drop, length-take-le}
use borrow.Author.Tests.{lt-ltb}
use Rattle.limits.specs.Limits.{MOST_BYTES}
use Rattle.encode.specs.declared.Kind.{Kind}
use Rattle.encode.specs.declared.Kind.TheVariants.{Fixed, Char, Blob}
use Rattle.plain.specs.Rows.{null}
use Rattle.plain.specs.Plain.{plain_row, least_bytes, ends_good}
use Rattle.nullable.specs.Nullable.{bitmap_length, plain_part, bitmap_part, bit_at, nullable_row}
use Rattle.rle.specs.RunLength.{inner_part}
use Rattle.dict.specs.Dictionary.{key_part, entries_part, entry_row, entry_good}
use Rattle.source.specs.declared.Marks.TheVariants.{Bare, Bits, Keys}
use Rattle.source.specs.declared.Source.{Source}
use Rattle.source.specs.Rows.{shown_by, seen_by, most_by, row_by, good_by, MarkBytes, Ready}
use Rattle.format.specs.declared.Encoding.{Encoding}
use Rattle.format.specs.declared.Encoding.TheVariants.{Plain, Nullable, RunLength, RunLengthNullable, Dictionary}
use Rattle.format.specs.declared.Head.{Head}
use Rattle.format.specs.Opening.{row_at}
use Rattle.anatomy.specs.declared.Parts.{Parts}
use Rattle.anatomy.specs.Tests.{no_runs, row_good}
use Rattle.anatomy.specs.Parts as P
use Rattle.anatomy.specs.Parts.{part, plain_parts, nullable_parts, bits_at, run_parts, null_run_parts, key_parts, parts_of, part_in, Within, AllWithin, marks_in, items_in, Right}
use Rattle.anatomy.proofs.RightNumbers.{plain_fits, nullable-fits, no-runs, runs_of, runs_fit, null-runs-of, null-runs-fit, key-runs-of, entries-few, entries_fit, keys-fit}
use Rattle.anatomy.proofs.PartsOfLists.{part-long, part-all, part-rest, part-first, part_at, part-between, part-inside}

-- ---- no bytes
nothing-long : (b : List ℕ) → 0 ≤ MOST_BYTES → length (part_in (part 0 0) b) ≤ MOST_BYTES
unfolding part_in
nothing-long b h = h

nothing-least : (k : Kind) (b : List ℕ) → least_bytes k 0 ≤ length (part_in (part 0 0) b)
unfolding part_in least_bytes
nothing-least (Fixed p) b = rw zero-mul (omega arith)
nothing-least (Char w) b = rw zero-mul (omega arith)
nothing-least (Blob text) b = omega arith

-- ---- one item that is there
listed : (n i : ℕ) (t : Bool) → i < n → (ltb i n && t) ≡ t
listed n i t h = simp (lt-ltb i n h)

there : (k : Kind) (m : ℕ) (items : List ℕ) (i : ℕ) → i < m → (ltb i m && entry_good k m items (suc i)) ≡ ends_good k m items i
unfolding entry_good
there k m items i h = simp (lt-ltb i m h)

-- a null bit shows no item
bit-row :
    (k : Kind) (m : ℕ) (items : List ℕ) (i : ℕ) (t : Bool)
    → cond t null (plain_row k m items i) ≡ entry_row k m items (cond t 0 (suc i))
unfolding entry_row
bit-row k m items i true = refl
bit-row k m items i false = refl

bitmap-holds : (n : ℕ) → n ≤ 8 * bitmap_length n
unfolding bitmap_length
bitmap-holds n = omega arith

within : (i j len : ℕ) → i ≤ j → j ≤ len → Within (part i j) len
within i j len p q = record { order = p; inside = q }

nowhere-within : (len : ℕ) → Within (part 0 0) len
nowhere-within len = within 0 0 len (omega arith) (omega arith)

-- ---- what the code is handed
abbrev most : Parts → ℕ
most p = most_by p.source.marks p.source.items p.source.runs

pub record Laid (k : Kind) (e : Encoding) (n : ℕ) (h : Head) (b : List ℕ) (p : Parts) : Type 0 where
  pub kind : p.source.kind ≡ k
  pub within : AllWithin p (length b)
  pub ready : Ready p.source (marks_in p b) (items_in p b)
  pub row : (i : ℕ) → i < most p → row_at k e n h b i ≡ row_by p.source (marks_in p b) (items_in p b) i
  pub good : (i : ℕ) → i < most p → row_good k e n h b i ≡ good_by p.source (marks_in p b) (items_in p b) i

module _ (k : Kind) (n len : ℕ) (h : Head) (run : ℕ) (b : List ℕ) (long : length b ≡ len) where
  laid-plain : Right k Plain n len h run → Laid k Plain n h b (plain_parts k n len)
  unfolding plain_parts MarkBytes row_at row_by shown_by most_by entry_row row_good good_by seen_by
  laid-plain w =
      let f = plain_fits k n len h run w in
      let l = w.size in
      let a : part_in (part 0 len) b ≡ b = part-all b len long in
      record {
        kind = refl;
        within = record {
          counts = nowhere-within (length b);
          marks = nowhere-within (length b);
          items = within 0 len (length b) (omega arith) (omega arith);
        };
        ready = record { few = f.0; short = omega arith; block = rw a (omega arith); whole = rw a (omega arith); marked = tt };
        row = λ i q. rw a;
        good = λ i q. rw a (sym (there k n b i q));
      }

  laid-nullable : Right k Nullable n len h run → Laid k Nullable n h b (nullable_parts k n len)
  unfolding nullable_parts MarkBytes row_at row_by shown_by most_by row_good good_by seen_by nullable_row plain_part bitmap_part
  laid-nullable w =
      let f = nullable-fits k n len h run w in
      let l = w.size in
      let bits = bitmap_length n in
      let end = bits_at n len in
      let a : part_in (part 0 end) b ≡ take end b = part-first b end in
      let m : part_in (part end (end + bits)) b ≡ take bits (drop end b) = part_at b end bits in
      let la : length (take end b) ≡ end = length-take-le end b (omega arith) in
      let marked = within end (end + bits) (length b) (omega arith) (omega arith) in
      let lm : length (part_in (part end (end + bits)) b) ≡ bits = part-long (part end (end + bits)) b marked ∙ omega arith in
      let held : n ≤ 8 * bits = bitmap-holds n in
      record {
        kind = refl;
        within = record {
          counts = nowhere-within (length b);
          marks = marked;
          items = within 0 end (length b) (omega arith) (omega arith);
        };
        ready = record { few = f.0; short = omega arith; block = rw a (omega arith); whole = rw a (omega arith); marked = omega arith };
        row = λ i q. rw (a, m, long) (bit-row k n (take end b) i (eqb (bit_at (take bits (drop end b)) i) 0));
        good = λ i q. rw (a, long) (sym (there k n (take end b) i q));
      }

  -- there is no run to be read
  nowhere : {A : Type 0} (i : ℕ) → i < h.runs → h.runs ≡ 0 → A
  nowhere i q e = absurd (omega arith)

  laid_runs : Right k RunLength n len h run → Laid k RunLength n h b (run_parts k len h)
  unfolding run_parts MarkBytes row_at row_by shown_by most_by entry_row row_good good_by seen_by inner_part
  laid_runs w = go (no_runs h) refl
    where
      s : Source
      s = P.source k Bare h.runs h.runs true

      go : (t : Bool) → no_runs h ≡ t
          → Laid k RunLength n h b
          (cond t (P.apart s (part 0 0) (part 0 0) (part 0 0)) (P.apart s (part 8 (8 + h.counts)) (part 0 0) (part (8 + h.counts) len)))
      go true e =
          let z = no-runs h e in
          record {
            kind = refl;
            within = record { counts = nowhere-within (length b); marks = nowhere-within (length b); items = nowhere-within (length b) };
            ready = record {
              few = omega arith;
              short = omega arith;
              block = nothing-long b (omega arith);
              whole = rw z.0 (nothing-least k b);
              marked = tt;
            };
            row = λ i q. nowhere i q z.0;
            good = λ i q. nowhere i q z.0;
          }
      go false e =
          let f = runs_of k n len h run w in
          let l = w.size in
          let g = runs_fit k n len h run w e in
          let a : part_in (part (8 + h.counts) len) b ≡ drop (8 + h.counts) b = part-rest b len (8 + h.counts) long in
          let la = length-drop (8 + h.counts) b in
          record {
            kind = refl;
            within = record {
              counts = within 8 (8 + h.counts) (length b) (omega arith) (omega arith);
              marks = nowhere-within (length b);
              items = within (8 + h.counts) len (length b) (omega arith) (omega arith);
            };
            ready = record { few = f.runs; short = f.runs; block = rw a (omega arith); whole = rw a (omega arith); marked = tt };
            row = λ i q. rw a;
            good = λ i q. rw a (sym (there k h.runs (drop (8 + h.counts) b) i q));
          }

  laid-null-runs : Right k RunLengthNullable n len h run → Laid k RunLengthNullable n h b (null_run_parts k len h)
  unfolding null_run_parts MarkBytes row_at row_by shown_by most_by row_good good_by seen_by inner_part nullable_row plain_part bitmap_part
  laid-null-runs w = go (no_runs h) refl
    where
      bits : ℕ
      bits = bitmap_length h.runs

      end : ℕ
      end = len - (bits + 4)

      s : Source
      s = P.source k Bits h.runs h.runs true

      go : (t : Bool) → no_runs h ≡ t
          → Laid k RunLengthNullable n h b
          (cond t (P.apart s (part 0 0) (part 0 0) (part 0 0))
          (P.apart s (part 8 (8 + h.counts)) (part end (end + bits)) (part (8 + h.counts) end)))
      go true e =
          let z = no-runs h e in
          record {
            kind = refl;
            within = record { counts = nowhere-within (length b); marks = nowhere-within (length b); items = nowhere-within (length b) };
            ready = record {
              few = omega arith;
              short = omega arith;
              block = nothing-long b (omega arith);
              whole = rw z.0 (nothing-least k b);
              marked = omega arith;
            };
            row = λ i q. nowhere i q z.0;
            good = λ i q. nowhere i q z.0;
          }
      go false e =
          let f = null-runs-of k n len h run w in
          let l = w.size in
          let g = null-runs-fit k n len h run w e in
          let c = 8 + h.counts in
          let ld : length (drop c b) ≡ length b - c = length-drop c b in
          -- the plain part and the bitmap of what lies behind the counts
          let q : length (drop c b) - (bits + 4) ≡ end - c = omega arith in
          let a : part_in (part c end) b ≡ take (length (drop c b) - (bits + 4)) (drop c b) = part-between b c end _ q in
          let o : c + (length (drop c b) - (bits + 4)) ≡ end = omega arith in
          let m : part_in (part end (end + bits)) b ≡ take bits (drop (length (drop c b) - (bits + 4)) (drop c b)) =
          part_at b end bits ∙ rw (drop-drop, o) in
          let listing = within c end (length b) (omega arith) (omega arith) in
          let marked = within end (end + bits) (length b) (omega arith) (omega arith) in
          let la : length (part_in (part c end) b) ≡ end - c = part-long (part c end) b listing in
          let lm : length (part_in (part end (end + bits)) b) ≡ end + bits - end = part-long (part end (end + bits)) b marked in
          let held : h.runs ≤ 8 * bits = bitmap-holds h.runs in
          record {
            kind = refl;
            within = record { counts = within 8 c (length b) (omega arith) (omega arith); marks = marked; items = listing };
            ready = record { few = f.runs; short = f.runs; block = omega arith; whole = omega arith; marked = omega arith };
            row = λ i q. rw (a, m) (bit-row k h.runs _ i (eqb (bit_at _ i) 0));
            good = λ i q. rw a (sym (there k h.runs _ i q));
          }

  laid-keys : Right k Dictionary n len h run → Laid k Dictionary n h b (key_parts k len h)
  unfolding key_parts MarkBytes row_at row_by shown_by most_by row_good good_by seen_by inner_part key_part entries_part
  laid-keys w = go (no_runs h) refl
    where
      s : Source
      s = P.source k Keys h.entries h.runs true

      go : (t : Bool) → no_runs h ≡ t
          → Laid k Dictionary n h b
          (cond t (P.apart s (part 0 0) (part 0 0) (part (12 + h.keys) len))
          (P.apart s (part 20 (20 + h.counts)) (part (20 + h.counts) (12 + h.keys)) (part (12 + h.keys) len)))
      go true e =
          let z = no-runs h e in
          let l = w.size in
          let g = entries_fit k n len h run w in
          let f = entries-few k n len h run w in
          let a : part_in (part (12 + h.keys) len) b ≡ drop (12 + h.keys) b = part-rest b len (12 + h.keys) long in
          let la = length-drop (12 + h.keys) b in
          record {
            kind = refl;
            within = record {
              counts = nowhere-within (length b);
              marks = nowhere-within (length b);
              items = within (12 + h.keys) len (length b) (omega arith) (omega arith);
            };
            ready = record {
              few = omega arith;
              short = omega arith;
              block = rw a (omega arith);
              whole = rw a (omega arith);
              marked = omega arith;
            };
            row = λ i q. nowhere i q z.0;
            good = λ i q. nowhere i q z.0;
          }
      go false e =
          let f = key-runs-of k n len h run w in
          let l = w.size in
          let g = entries_fit k n len h run w in
          let few = entries-few k n len h run w in
          let room = keys-fit k n len h run w e in
          let a : part_in (part (12 + h.keys) len) b ≡ drop (12 + h.keys) b = part-rest b len (12 + h.keys) long in
          let la = length-drop (12 + h.keys) b in
          let c = 20 + h.counts in
          let o : 12 + (8 + h.counts) ≡ c = omega arith in
          let m : part_in (part c (12 + h.keys)) b ≡ drop (8 + h.counts) (take h.keys (drop 12 b)) =
          rw o at (part-inside b 12 h.keys (8 + h.counts)) in
          let marked = within c (12 + h.keys) (length b) (omega arith) (omega arith) in
          let lm : length (part_in (part c (12 + h.keys)) b) ≡ 12 + h.keys - c = part-long (part c (12 + h.keys)) b marked in
          record {
            kind = refl;
            within = record {
              counts = within 20 c (length b) (omega arith) (omega arith);
              marks = marked;
              items = within (12 + h.keys) len (length b) (omega arith) (omega arith);
            };
            ready = record { few = omega arith; short = f.runs; block = rw a (omega arith); whole = rw a (omega arith); marked = omega arith };
            row = λ i q. rw (a, m);
            good = λ i q. rw (a, m) (sym (listed h.runs i _ q));
          }

  -- THE PARTS HOLD THE ROWS: for every encoding
  pub laid : (e : Encoding) → Right k e n len h run → Laid k e n h b (parts_of k e n len h)
  unfolding parts_of
  laid Plain w = laid-plain w
  laid Nullable w = laid-nullable w
  laid RunLength w = laid_runs w
  laid RunLengthNullable w = laid-null-runs w
  laid Dictionary w = laid-keys w
