-- Finish: what the areas hold, the length of the block, and the answer on each way through the code. Assumes nothing.
use Rattle.std.specs.Prelude.{Option, Some, None}
use Prim.Native.Nat.{ℕ, ◌+◌, ◌*◌, ◌≤◌, ◌<◌}
use native.Mathlib.Omega.{arith}
use mathlib.Core.Path.{◌≡◌, refl, sym, ap, subst, ◌∙◌}
use mathlib.Core.Bool.{Bool, true, false, cond}
use mathlib.Core.List.{List, []}
use lib.Dec.{ltb, eqb}
use lib.IntN.{ℤ}
use lib.ListN.{length}
use lib.Seq.{sets}
use borrow.Author.Tests.{lt-ltb, le-ltb, ltb-false, eqb-true, eqb-false}
use Rattle.area.specs.Area.{over}
use Rattle.area.proofs.Laws.{over-sets}
use Rattle.encode.specs.declared.Kind.{Kind}
use Rattle.encode.specs.declared.Kind.TheVariants.{Fixed, Char, Blob}
use Rattle.nullable.specs.Nullable.{bitmap_length}
use Rattle.format.specs.declared.Encoding.{Encoding}
use Rattle.format.specs.declared.Encoding.TheVariants.{Plain, Nullable, RunLength, RunLengthNullable, Dictionary}
use Rattle.format.specs.declared.Column.{Column}
use Rattle.format.specs.Blocks.{column_of, column}
use Rattle.emit.proofs.Lengths.{ends_length, length-plain, flags_length, length-inner, no-runs, length_runs, no_keys, length-keys, length-dictionary}
use Rattle.emit.specs.Parts.{held_plain, held_inner, held_counts, held_runs, held_keys, held_dictionary}
use Rattle.limits.specs.Limits.{MOST_ITEMS, MOST_ENTRIES, MOST_BYTES}
use Rattle.limits.specs.Refusals.{ROOM, DISAGREE}
use Rattle.encode.proofs.Bools.{clash as apart}
use Rattle.needs.specs.declared.Counted.{Counted}
use Rattle.needs.specs.Needs.{coded, flagged, keyed, stored_by, plain_bytes, inner_bytes, run_bytes, finished_bytes, counts_past, fields_short, disagree}
use Rattle.needs.proofs.Short.{fitting}
use Rattle.needs.proofs.Wrong.{right, agree}
use Rattle.append.specs.Appending.{Lent, lent, room_of}
use Rattle.builder.specs.declared.Builder.{Builder}
use Rattle.builder.specs.declared.Finished.{Finished}
use Rattle.builder.specs.Finishing.{Finish, finish_of, held_block, finished_with, finished_in, finished}
use Rattle.builder.specs.Asking.{with_counts, Ready}

-- ---- what the areas hold
ends_held : (k : Kind) (n : ℕ) (a : Lent) → fields_short k n (room_of a) ≡ false → (text : Bool) → k ≡ Blob text → n ≤ length a.ends
unfolding fields_short room_of
ends_held k n a h text q = ltb-false (length a.ends) n (sym (ap (λ (j : Kind). fields_short j n (room_of a)) q) ∙ h)

pub ready : (k : Kind) (e : Encoding) (r : Counted) (a : Lent) → disagree k e r (room_of a) ≡ false → Ready k e r a
unfolding room_of
ready k e r a h =
    let w = agree k e r (room_of a) h in
    let f = fitting k e r (room_of a) w.long in
    let g = right k e r w.right in
    record {
      few = g.few.stored;
      entries = g.few.entries;
      runs = g.few.runs;
      items = f.items;
      ends = ends_held k (stored_by e r) a f.fields;
      flags = f.flags;
      counts = f.counts;
      keys = f.keys;
    }

-- lengths have no part in the block
pub lens-apart : (k : Kind) (e : Encoding) (r : Counted) (a : Lent) → held_block k e r a ≡ held_block k e r (lent a.items a.ends a.flags a.counts a.keys [])
unfolding held_block
lens-apart k Plain r a = refl
lens-apart k Nullable r a = refl
lens-apart k RunLength r a = refl
lens-apart k RunLengthNullable r a = refl
lens-apart k Dictionary r a = refl

pub ready-apart : {k : Kind} {e : Encoding} {r : Counted} {a : Lent} → Ready k e r a → Ready k e r (lent a.items a.ends a.flags a.counts a.keys [])
ready-apart h = record { few = h.few; entries = h.entries; runs = h.runs; items = h.items; ends = h.ends; flags = h.flags; counts = h.counts; keys = h.keys }

-- ---- the answer
module _ (r : Builder) (a : Lent) (out : List ℕ) {c : Option Column} (q : c ≡ column_of r.kind r.encoding r.width) where
  pub column-none : c ≡ None → finished r a out ≡ finish_of DISAGREE 0 r out
  unfolding finished finished_in
  column-none t = rw (← q, t)

  module _ {k : Kind} {e : Encoding} (t : c ≡ Some (column k e)) where
    pub not-agreed : disagree k e r.counted (room_of a) ≡ true → finished r a out ≡ finish_of DISAGREE 0 r out
    unfolding finished finished_in
    not-agreed h = rw (← q, t, h)

    module _ (h : disagree k e r.counted (room_of a) ≡ false) {n : ℕ} (l : n ≡ length (held_block k e r.counted a)) where
      abbrev block : List ℕ
      block = held_block k e r.counted a

      whole : finished r a out ≡ finished_with r block out
      unfolding finished finished_in
      whole = rw (← q, t, h)

      abbrev by-room : Bool → Finish
      by-room b = cond b (finish_of ROOM 0 r out) (finish_of 0 (length block) r (over out 0 block))

      pub room-short : length out < n → finished r a out ≡ finish_of ROOM 0 r out
      unfolding finished_with
      room-short d = whole ∙ ap by-room (sym (ap (ltb (length out)) l) ∙ lt-ltb (length out) n d)

      pub done : n ≤ length out → finished r a out ≡ finish_of 0 n r (sets out 0 block)
      unfolding finished_with
      done d =
          whole
          ∙ ap by-room (sym (ap (ltb (length out)) l) ∙ le-ltb (length out) n d)
          ∙ ap (λ (m : ℕ). finish_of 0 m r (over out 0 block)) (sym l)
          ∙ ap (finish_of 0 n r) (sym (over-sets block out 0 (omega (arith, l, d))))

-- what the promise says, from the whole answer
pub given : (x : Finish) {y : Finish} → x ≡ y → {n : Finished} {o : List ℕ} → n ≡ y.answer → o ≡ y.out → (n ≡ x.answer) × (o ≡ x.out)
given x {y} q {n} {o} g h = subst (λ (z : Finish). (n ≡ z.answer) × (o ≡ z.out)) (sym q) (g, h)

-- ---- the length of the block
plain-long :
    (k : Kind) (n len : ℕ) (items ends : List ℕ) → len ≤ length items → ((text : Bool) → k ≡ Blob text → n ≤ length ends) → length (held_plain k n len items ends) ≡ plain_bytes k n len
unfolding plain_bytes
plain-long k n len items ends h e = length-plain k n len items ends h e ∙ go k
  where
    go : (k : Kind) → ends_length k n + len ≡ plain_bytes k n len
    go (Fixed p) = omega arith
    go (Char w) = omega arith
    go (Blob text) = refl

inner-long :
    (f : Bool) (k : Kind) (n len : ℕ) (items ends flags : List ℕ) → len ≤ length items → ((text : Bool) → k ≡ Blob text → n ≤ length ends)
    → length (held_inner f k n len items ends flags) ≡ plain_bytes k n len + cond f (bitmap_length n + 4) 0
inner-long f k n len items ends flags h e =
    let p = plain-long k n len items ends h e in
    length-inner f k n len items ends flags ∙ ap (λ (m : ℕ). m + flags_length f n) p ∙ ap (λ (m : ℕ). plain_bytes k n len + m) (go f)
  where
    go : (f : Bool) → flags_length f n ≡ cond f (bitmap_length n + 4) 0
    go false = refl
    go true = refl

runs-long : (r : Counted) (counts inner : List ℕ) {c : ℕ} → c ≡ length (held_counts r.runs counts) → length (held_runs r.runs counts inner) ≡ run_bytes (with_counts r c) (length inner)
unfolding run_bytes with_counts
runs-long r counts inner {c} q = go (eqb r.runs 0) refl
  where
    go : (b : Bool) → eqb r.runs 0 ≡ b → length (held_runs r.runs counts inner) ≡ cond (eqb r.runs 0) 0 (8 + c + length inner)
    go true h = ap length (no-runs r.runs counts inner (eqb-true r.runs 0 h)) ∙ sym (ap (λ (b : Bool). cond b 0 (8 + c + length inner)) h)
    go false h =
        length_runs r.runs counts inner (eqb-false r.runs 0 h) ∙ ap (λ (m : ℕ). 8 + m + length inner) (sym q)
        ∙ sym (ap (λ (b : Bool). cond b 0 (8 + c + length inner)) h)

keys-long :
    (r : Counted) (counts : List ℕ) (keys : List ℤ) {c : ℕ} → c ≡ length (held_counts r.runs counts) → r.runs ≤ length keys
    → length (held_keys r.runs counts keys) ≡ run_bytes (with_counts r c) (4 * r.runs)
unfolding run_bytes with_counts
keys-long r counts keys {c} q l = go (eqb r.runs 0) refl
  where
    go : (b : Bool) → eqb r.runs 0 ≡ b → length (held_keys r.runs counts keys) ≡ cond (eqb r.runs 0) 0 (8 + c + 4 * r.runs)
    go true h = ap length (no_keys r.runs counts keys (eqb-true r.runs 0 h)) ∙ sym (ap (λ (b : Bool). cond b 0 (8 + c + 4 * r.runs)) h)
    go false h =
        length-keys r.runs counts keys (eqb-false r.runs 0 h) l ∙ ap (λ (m : ℕ). 8 + m + 4 * r.runs) (sym q)
        ∙ sym (ap (λ (b : Bool). cond b 0 (8 + c + 4 * r.runs)) h)

-- by the counts held, not by the recorded byte length
pub block-long :
    (k : Kind) (e : Encoding) (r : Counted) (a : Lent) → Ready k e r a → {c : ℕ} → c ≡ cond (coded e) (length (held_counts r.runs a.counts)) 0
    → finished_bytes k e (with_counts r c) ≡ length (held_block k e r a)
unfolding finished_bytes inner_bytes held_block stored_by keyed coded flagged with_counts
block-long k Plain r a h q = sym (inner-long false k r.rows r.bytes a.items a.ends a.flags h.items h.ends)
block-long k Nullable r a h q = sym (inner-long true k r.rows r.bytes a.items a.ends a.flags h.items h.ends)
block-long k RunLength r a h q =
    let i = held_inner false k r.runs r.bytes a.items a.ends a.flags in
    sym (runs-long r a.counts i q ∙ ap (run_bytes (with_counts r _)) (inner-long false k r.runs r.bytes a.items a.ends a.flags h.items h.ends))
block-long k RunLengthNullable r a h q =
    let i = held_inner true k r.runs r.bytes a.items a.ends a.flags in
    sym (runs-long r a.counts i q ∙ ap (run_bytes (with_counts r _)) (inner-long true k r.runs r.bytes a.items a.ends a.flags h.items h.ends))
block-long k Dictionary r a h {c} q =
    let p = plain-long k r.entries r.bytes a.items a.ends h.items h.ends in
    let y = keys-long r a.counts a.keys q (h.keys refl) in
    let d = length-dictionary k r.entries r.bytes r.runs a.items a.ends a.counts a.keys in
    omega (arith, p, y, d)

-- ---- what is written
module _ (k : Kind) (r : Counted) (a : Lent) where
  abbrev inner : Bool → ℕ → List ℕ
  inner f n = held_inner f k n r.bytes a.items a.ends a.flags

  -- the block of each encoding
  module _ {e : Encoding} where
    pub block-plain : e ≡ Plain → inner false r.rows ≡ held_block k e r a
    unfolding held_block
    block-plain q = ap (λ (f : Encoding). held_block k f r a) (sym q)

    pub block-nullable : e ≡ Nullable → inner true r.rows ≡ held_block k e r a
    unfolding held_block
    block-nullable q = ap (λ (f : Encoding). held_block k f r a) (sym q)

    pub block_runs : e ≡ RunLength → held_runs r.runs a.counts (inner false r.runs) ≡ held_block k e r a
    unfolding held_block
    block_runs q = ap (λ (f : Encoding). held_block k f r a) (sym q)

    pub block-null-runs : e ≡ RunLengthNullable → held_runs r.runs a.counts (inner true r.runs) ≡ held_block k e r a
    unfolding held_block
    block-null-runs q = ap (λ (f : Encoding). held_block k f r a) (sym q)

    pub block-keys :
        e ≡ Dictionary → held_dictionary k r.entries r.bytes r.runs a.items a.ends a.counts a.keys ≡ held_block k e r a
    unfolding held_block
    block-keys q = ap (λ (f : Encoding). held_block k f r a) (sym q)

  -- what the parts ask
  module _ {e : Encoding} (h : Ready k e r a) {m : ℕ} (l : length (held_block k e r a) ≤ m) where
    items-ask :
        (f : Bool) {n : ℕ} → n ≡ stored_by e r → (f ≡ true → flagged e ≡ true)
        → (n ≤ MOST_ITEMS) × (r.bytes ≤ length a.items) × ((text : Bool) → k ≡ Blob text → n ≤ length a.ends) × (f ≡ true → bitmap_length n ≤ length a.flags)
    items-ask f q g = (
      subst (λ (i : ℕ). i ≤ MOST_ITEMS) (sym q) h.few,
      h.items,
      λ t z. subst (λ (i : ℕ). i ≤ length a.ends) (sym q) (h.ends t z),
      λ z. subst (λ (i : ℕ). bitmap_length i ≤ length a.flags) (sym q) (h.flags (g z)),
    )

    room : {b : List ℕ} → b ≡ held_block k e r a → length b ≤ m
    room q = subst (λ (b : List ℕ). length b ≤ m) (sym q) l

    pub plain-asks :
        e ≡ Plain
        → (r.rows ≤ MOST_ITEMS) × (r.bytes ≤ length a.items) × ((text : Bool) → k ≡ Blob text → r.rows ≤ length a.ends) × (false ≡ true → bitmap_length r.rows ≤ length a.flags)
        × (0 + length (inner false r.rows) ≤ m)
    unfolding stored_by keyed coded
    plain-asks q =
        let i = items-ask false (ap (λ (f : Encoding). stored_by f r) (sym q)) (λ z. apart (sym z)) in
        let y = room (block-plain q) in
        (i.0, i.1, i.2, i.3, omega (arith, y))

    pub nullable-asks :
        e ≡ Nullable
        → (r.rows ≤ MOST_ITEMS) × (r.bytes ≤ length a.items) × ((text : Bool) → k ≡ Blob text → r.rows ≤ length a.ends) × (true ≡ true → bitmap_length r.rows ≤ length a.flags)
        × (0 + length (inner true r.rows) ≤ m)
    unfolding stored_by keyed coded flagged
    nullable-asks q =
        let i = items-ask true (ap (λ (f : Encoding). stored_by f r) (sym q)) (λ z. ap flagged q) in
        let y = room (block-nullable q) in
        (i.0, i.1, i.2, i.3, omega (arith, y))

    module _ {c : ℕ} (z : c ≡ cond (coded e) (length (held_counts r.runs a.counts)) 0) where
      counts-are : coded e ≡ true → c ≡ length (held_counts r.runs a.counts)
      counts-are t = z ∙ ap (λ (b : Bool). cond b (length (held_counts r.runs a.counts)) 0) t

      pub runs-ask :
          e ≡ RunLength
          → (r.runs ≤ MOST_ITEMS) × (r.bytes ≤ length a.items) × ((text : Bool) → k ≡ Blob text → r.runs ≤ length a.ends) × (false ≡ true → bitmap_length r.runs ≤ length a.flags)
          × (r.runs ≤ length a.counts) × (c ≡ length (held_counts r.runs a.counts))
          × (length (held_runs r.runs a.counts (inner false r.runs)) ≤ m)
      unfolding stored_by keyed coded
      runs-ask q =
          let i = items-ask false (ap (λ (f : Encoding). stored_by f r) (sym q)) (λ z. apart (sym z)) in
          let t : coded e ≡ true = ap coded q in
          (i.0, i.1, i.2, i.3, h.counts t, counts-are t, room (block_runs q))

      pub null-runs-ask :
          e ≡ RunLengthNullable
          → (r.runs ≤ MOST_ITEMS) × (r.bytes ≤ length a.items) × ((text : Bool) → k ≡ Blob text → r.runs ≤ length a.ends) × (true ≡ true → bitmap_length r.runs ≤ length a.flags)
          × (r.runs ≤ length a.counts) × (c ≡ length (held_counts r.runs a.counts))
          × (length (held_runs r.runs a.counts (inner true r.runs)) ≤ m)
      unfolding stored_by keyed coded flagged
      null-runs-ask q =
          let i = items-ask true (ap (λ (f : Encoding). stored_by f r) (sym q)) (λ z. ap flagged q) in
          let t : coded e ≡ true = ap coded q in
          (i.0, i.1, i.2, i.3, h.counts t, counts-are t, room (block-null-runs q))

      pub keys-ask :
          e ≡ Dictionary
          → (r.entries ≤ MOST_ENTRIES) × (r.bytes ≤ length a.items) × ((text : Bool) → k ≡ Blob text → r.entries ≤ length a.ends) × (r.runs ≤ MOST_ITEMS)
          × (r.runs ≤ length a.counts) × (r.runs ≤ length a.keys) × (c ≡ length (held_counts r.runs a.counts))
          × (length (held_dictionary k r.entries r.bytes r.runs a.items a.ends a.counts a.keys) ≤ m)
      unfolding stored_by keyed coded
      keys-ask q =
          let n : r.entries ≡ stored_by e r = ap (λ (f : Encoding). stored_by f r) (sym q) in
          let t : coded e ≡ true = ap coded q in
          let d : keyed e ≡ true = ap keyed q in (
            h.entries d,
            h.items,
            λ x y. subst (λ (i : ℕ). i ≤ length a.ends) (sym n) (h.ends x y),
            h.runs t,
            h.counts t,
            h.keys d,
            counts-are t,
            room (block-keys q),
          )

-- ---- the whole way, where the numbers and the areas agree
few-with : (e : Encoding) (r : Counted) (n : ℕ) → counts_past e (with_counts r n) ≡ counts_past e r
unfolding counts_past with_counts
few-with e r n = refl

module _ (k : Kind) (e : Encoding) (r : Counted) (a : Lent) (h : disagree k e r (room_of a) ≡ false) {n : ℕ}
    (c : n ≡ cond (coded e) (length (held_counts r.runs a.counts)) 0) (l : n ≤ 5 * MOST_ITEMS) {b : Counted} (q : b ≡ with_counts r n) where
  pub length-asks : (counts_past e b ≡ false) × (b.bytes ≤ 2 * MOST_BYTES) × (coded e ≡ true → b.counts ≤ 2 * MOST_BYTES)
  unfolding with_counts
  length-asks =
      let g = right k e r (agree k e r (room_of a) h).right in
      let i = g.bytes in
      subst (λ (z : Counted). (counts_past e z ≡ false) × (z.bytes ≤ 2 * MOST_BYTES) × (coded e ≡ true → z.counts ≤ 2 * MOST_BYTES)) (sym q)
      (few-with e r n ∙ g.past, omega arith, λ _. omega arith)

  pub long : {m : ℕ} → m ≡ finished_bytes k e b → m ≡ length (held_block k e r a)
  long d = d ∙ ap (finished_bytes k e) q ∙ block-long k e r a (ready k e r a h) c

  pub block-asks :
      {m : ℕ} → m ≡ finished_bytes k e b → {o : ℕ} → m ≤ o
      → Ready k e r (lent a.items a.ends a.flags a.counts a.keys [])
      × (n ≡ cond (coded e) (length (held_counts r.runs a.counts)) 0)
      × (length (held_block k e r (lent a.items a.ends a.flags a.counts a.keys [])) ≤ o)
  block-asks {m} d {o} i =
      let z = long d in
      (ready-apart (ready k e r a h), c, subst (λ (t : List ℕ). length t ≤ o) (lens-apart k e r a) (subst (λ (t : ℕ). t ≤ o) z i))
