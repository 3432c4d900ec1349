-- After an accepted append of a row, the next append of the same row finds no wrong number, area or field, and exactly what `once_more` says: the row joins
-- its run while that is open; else its item is stored again, but for an entry; its key is the same. For any numbers and all memory. Assumes nothing.
use Prim.Native.Nat.{◌<◌}
use mathlib.Core.Bool.{Bool, true, false}
use mathlib.Core.Path.{◌≡◌, refl, sym, ap, subst, ◌∙◌}
use lib.IntN.{ℤ}
use lib.ListN.{length}
use Rattle.encode.specs.declared.Kind.{Kind}
use Rattle.encode.proofs.Bools.{clash}
use Rattle.plain.specs.Rows.{Row}
use Rattle.plain.specs.Plain.{item_of}
use Rattle.nullable.specs.Nullable.{presence}
use Rattle.format.specs.declared.Encoding.{Encoding}
use Rattle.format.specs.declared.Encoding.TheVariants.{Plain, Nullable, RunLength, RunLengthNullable, Dictionary}
use Rattle.needs.specs.declared.Counted.{Counted}
use Rattle.needs.specs.Needs.{coded, flagged, keyed, stored_by, bytes_wrong, past_limits, too_short}
use Rattle.needs.proofs.Encodings.{keyed-coded}
use Rattle.needs.proofs.Wrong.{bytes-right}
use Rattle.step.specs.Steps.{adds, step_of}
use Rattle.step.specs.Counting.{grown, next_of, counted_by}
use Rattle.step.proofs.Steps.{adds_same, step-says}
use Rattle.append.specs.Appending.{Lent, room_of, held_in, laid, Added, added}
use Rattle.append.specs.Asking.{Stores}
use Rattle.append.specs.Asking.{Found}
use Rattle.append.proofs.Passed.{are-right, Taken, item-asks, run-asks}
use Rattle.copies.specs.Copies.{joins_again, stores_again, stage, one_more, times_more, times}
use Rattle.copies_laws.specs.Wanted.{Accepted, StepsAgain, FindsAgain}
use Rattle.copies_laws.proofs.Answers.{once, Accepts, accepts, accepted}
use Rattle.copies_laws.proofs.RunsAgain.{runs-again}
use Rattle.copies_laws.proofs.KeysAgain.{keys-again}
use Rattle.copies_laws.proofs.AgreeAgain.{room-kept, agree-again}

-- ---- what is found: by encoding
module _ (k : Kind) (r : Counted) (a : Lent) (row : Row) (item joins : Bool) (key : ℤ) where
  -- encodings 0 and 1 store each row
  each-stored : (e : Encoding) → coded e ≡ false → adds item joins key ≡ step_of k e r (held_in a) a.keys row → item ≡ true
  unfolding step_of coded
  each-stored Plain c q = (adds_same q).0
  each-stored Nullable c q = (adds_same q).0
  each-stored RunLength c q = clash c
  each-stored RunLengthNullable c q = clash c
  each-stored Dictionary c q = clash c

  abbrev pub next_by : Encoding → Counted
  next_by e = grown e r (presence row) (length (item_of k row)) item joins

  abbrev pub after_by : Encoding → Lent
  after_by e = laid k e r row item joins key a

  step-again : (e : Encoding) → adds item joins key ≡ step_of k e r (held_in a) a.keys row → bytes_wrong k (stored_by e r) r.bytes ≡ false
      → (item ≡ true → Stores k (flagged e) (stored_by e r) r.bytes row (length (item_of k row)) a.items a.ends a.flags a.lens)
      → (keyed e ≡ true → joins ≡ false → r.runs < length a.keys)
      → StepsAgain k e (next_by e) (after_by e) row key
  unfolding step_of grown laid stored_by coded keyed stores_again joins_again
  step-again Plain q b w l = ap (adds true false) (sym (adds_same q).2)
  step-again Nullable q b w l = ap (adds true false) (sym (adds_same q).2)
  step-again RunLength q b w l = runs-again k row r (next_by RunLength) a.items a.ends a.lens item joins key b w refl refl refl q
  step-again RunLengthNullable q b w l = runs-again k row r (next_by RunLengthNullable) a.items a.ends a.lens item joins key b w refl refl refl q
  step-again Dictionary q b w l =
      keys-again k row r (next_by Dictionary) a.items a.ends a.lens a.keys b item joins key w (l refl) refl refl refl q

-- ---- every encoding: a row that is found, and counted in within the limits and the lent room
module _ (k : Kind) (e : Encoding) (r : Counted) (a : Lent) (row : Row) {item joins : Bool} {key : ℤ} (f : Found k e r a row item joins key)
    (p : past_limits k e (next_by k r a row item joins key e) ≡ false) (s : too_short k e (next_by k r a row item joins key e) (room_of a) ≡ false) where
  taken : Taken k e r a row item joins key (length (item_of k row)) (next_of 0 (next_by k r a row item joins key e))
  unfolding counted_by
  taken = record { found = f; long = refl; counted = rw (p, s); done = refl }

  slots : item ≡ true → Stores k (flagged e) (stored_by e r) r.bytes row (length (item_of k row)) a.items a.ends a.flags a.lens
  slots t = item-asks k e r a row taken t refl refl

  need : bytes_wrong k (stored_by e r) r.bytes ≡ false
  need = bytes-right k e r (are-right k e r a f.agrees)

  key-room : keyed e ≡ true → joins ≡ false → r.runs < length a.keys
  key-room t j = (run-asks k e r a row taken (keyed-coded e t) refl).2 (rw (t, j))

  pub room-again : room_of (after_by k r a row item joins key e) ≡ room_of a
  room-again = room-kept k e r row item joins key a (λ t. (slots t).items)

  pub found-next : let g = one_more k e row item joins key (stage r a) in
      Found k e g.counted g.areas row (stores_again e g.counted) (joins_again e g.counted) key
  unfolding one_more
  found-next =
      let says = step-says k e r (held_in a) a.keys row f.step in
      record {
        agrees =
            rw room-again
            (agree-again k e r row item joins (room_of a) says.1 (λ c. each-stored k r a row item joins key e c f.step) (λ j. (says.0 j).0) f.fit need p s);
        step = sym (step-again k r a row item joins key e f.step need slots key-room);
        fit = f.fit;
      }

-- ---- after an accepted append, whose step had that key
module _ (k : Kind) (e : Encoding) (r : Counted) (a : Lent) (row : Row) where
  after-once : (g : Accepts k e r a 1 row) → let x = added k e r a row in FindsAgain k e x.answer.counted x.areas row g.key
  unfolding times times_more one_more
  after-once g =
      let f = found-next k e r a row g.found g.within g.room in
      let q = sym (once k e r a row) ∙ accepted k e r a 1 row g in
      rw q (f.agrees, sym f.step)

  pub found-again : (item joins : Bool) (key : ℤ) → step_of k e r (held_in a) a.keys row ≡ adds item joins key → Accepted (added k e r a row)
      → let x = added k e r a row in FindsAgain k e x.answer.counted x.areas row key
  found-again item joins key q h =
      let g = accepts k e r a 1 row (ap (λ (x : Added). x.answer.number) (once k e r a row) ∙ h) in
      let p : adds g.item g.joins g.key ≡ adds item joins key = g.found.step ∙ q in
      let z : g.key ≡ key = (adds_same p).2 in
      subst (λ (i : ℤ). FindsAgain k e (added k e r a row).answer.counted (added k e r a row).areas row i) z (after-once g)
