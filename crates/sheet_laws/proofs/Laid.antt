-- Column j of the file that columns make: its entry, its place, its block and its opening. Assumes nothing.
use Prim.Native.Nat.{ℕ, zero, suc, ◌+◌, ◌*◌, ◌≤◌, ◌<◌, ◌^◌}
use native.Mathlib.Nat.{zero-add, add-zero}
use native.Mathlib.Omega.{arith}
use mathlib.Core.Bool.{true}
use mathlib.Core.List.{List, [], ◌∷◌, ◌++◌, append_assoc}
use mathlib.Core.Path.{◌≡◌, refl, sym, ap, ◌∙◌}
use lib.Dec.{eqb}
use lib.ListN.{length, get_or, take, drop, length-append}
use lib.Seq.{take_at, take-append_seam, drop-append-add}
use borrow.Author.Tests.{eq-eqb}
use Rattle.limits.specs.Limits.{MOST_FILE, MOST_COLUMNS}
use Rattle.limits.specs.Refusals.{NO_COLUMN}
use Rattle.encode.specs.Bytes.{high-first, big, number_of}
use Rattle.encode.proofs.RoundTrip.{number-bytes}
use Rattle.plain.specs.Each.{Each}
use Rattle.plain.specs.Plain.{joined}
use Rattle.format.specs.Opening.{open_number}
use Rattle.block.specs.Reading.{opened_by, opened}
use Rattle.block_laws.proofs.Lists.{each_at}
use Rattle.descriptor.specs.declared.Descriptor.{Descriptor}
use Rattle.descriptor.specs.Descriptor.{descriptor_of, descriptor_bytes, described_opened}
use Rattle.descriptor.proofs.BackAndForth.{Fits, comes_back}
use Rattle.sheet.specs.declared.Found.{Found}
use Rattle.sheet.specs.Sheet.{columns_in, directory_end, entry_at, descriptor_in, offset_in, length_in, named_by, sheet_number, opened_in, found, found_by, column_found, column_part}
use Rattle.sheet.proofs.Numbers.{named, no-column}
use Rattle.sheet.proofs.Answers.{nothing-found}
use Rattle.sheet_writer.specs.Writing.{Filed, blocks_of, entry_of, entries_from, file_of, filed_number}
use Rattle.sheet_laws.specs.Column.{none_filed, column, own_opening, place_of}
use Rattle.sheet_laws.proofs.Fields.{fields_fit}
use Rattle.sheet_laws.proofs.Cases.{part-named}

-- ---- the parts of the file
length-entries : (cs : List Filed) (at : ℕ) → length (entries_from at cs) ≡ 16 * length cs
unfolding entries_from
length-entries [] at = refl
length-entries (c ∷ cs) at =
    length-append (entry_of at c) (entries_from (at + length c.block) cs)
    ∙ omega (arith, length-entries cs (at + length c.block))

pub length-file : (cs : List Filed) → length (file_of cs) ≡ directory_end (length cs) + length (blocks_of cs)
unfolding file_of
length-file cs =
    let es : List ℕ = entries_from (directory_end (length cs)) cs in
    omega (arith, length-append es (blocks_of cs), length-entries cs (directory_end (length cs)))

count : (cs : List Filed) → columns_in (file_of cs) ≡ length cs
unfolding file_of
count cs = refl

entry_in : (cs : List Filed) (at : ℕ) (rest : List ℕ) (j : ℕ) → j < length cs
    → take 16 (drop (16 * j) (entries_from at cs ++ rest)) ≡ entry_of (at + length (blocks_of (take j cs))) (column cs j)
unfolding entries_from joined
entry_in [] at rest j l = absurd (omega arith)
entry_in (c ∷ cs) at rest zero l = ap (λ (i : ℕ). entry_of i c) (sym (add-zero at))
entry_in (c ∷ cs) at rest (suc j) l =
    let e : 16 * suc j ≡ length (entry_of at c) + 16 * j = omega arith in
    let p : at + length c.block + length (blocks_of (take j cs)) ≡ at + length (c.block ++ blocks_of (take j cs))
    = omega (arith, length-append c.block (blocks_of (take j cs))) in
    rw (e, append_assoc (entry_of at c) (entries_from (at + length c.block) cs) rest, drop-append-add (entry_of at c) (entries_from (at + length c.block) cs ++ rest) (16 * j))
    (entry_in cs (at + length c.block) rest j (omega arith) ∙ ap (λ (i : ℕ). entry_of i (column cs j)) p)

block_in : (cs : List Filed) (j : ℕ) → j < length cs → take (length (column cs j).block) (drop (length (blocks_of (take j cs))) (blocks_of cs)) ≡ (column cs j).block
unfolding joined
block_in [] j l = absurd (omega arith)
block_in (c ∷ cs) zero l = take-append_seam c.block (blocks_of cs)
block_in (c ∷ cs) (suc j) l =
    rw (length-append c.block (blocks_of (take j cs)), drop-append-add c.block (blocks_of cs) (length (blocks_of (take j cs))))
    (block_in cs j (omega arith))

block_inside : (cs : List Filed) (j : ℕ) → j < length cs → length (blocks_of (take j cs)) + length (column cs j).block ≤ length (blocks_of cs)
unfolding joined
block_inside [] j l = absurd (omega arith)
block_inside (c ∷ cs) zero l = omega (arith, length-append c.block (blocks_of cs))
block_inside (c ∷ cs) (suc j) l =
    omega (arith, block_inside cs j (omega arith), length-append c.block (blocks_of cs), length-append c.block (blocks_of (take j cs)))

-- ---- what an entry says
module _ (at : ℕ) (c : Filed) where
  offset-said : at < 4294967296 → offset_in (entry_of at c) ≡ at
  offset-said h = number-bytes high-first 4 at ∙ omega arith

  length-said : length c.block < 4294967296 → length_in (entry_of at c) ≡ length c.block
  length-said h = number-bytes high-first 4 (length c.block) ∙ omega arith

  descriptor-said : Fits c.descriptor → descriptor_in (entry_of at c) ≡ c.descriptor
  descriptor-said f = comes_back c.descriptor f

-- ---- column j, where each block is sound
abbrev pub SoundFiled : Filed → Type 0
SoundFiled c = (filed_number c ≡ 0) × (c.descriptor.zero ≡ 0)

module _ (cs : List Filed) (few : length cs ≤ MOST_COLUMNS) (short : length (file_of cs) ≤ MOST_FILE) (sound : Each SoundFiled cs)
    (j : ℕ) (there : j < length cs) where
  abbrev file : List ℕ
  file = file_of cs

  abbrev c : Filed
  c = column cs j

  abbrev at : ℕ
  at = place_of cs j

  c-sound : SoundFiled c
  c-sound = each_at SoundFiled cs none_filed sound j there

  inside : at + length c.block ≤ length file
  inside = omega (arith, length-file cs, block_inside cs j there)

  entry-is : entry_at j file ≡ entry_of at c
  unfolding file_of
  entry-is =
      let e : directory_end j ≡ suc (16 * j) = omega arith in
      rw e (entry_in cs (directory_end (length cs)) (blocks_of cs) j there)

  offset-is : offset_in (entry_at j file) ≡ at
  offset-is = ap offset_in entry-is ∙ offset-said at c (omega (arith, inside, short))

  length-is : length_in (entry_at j file) ≡ length c.block
  length-is = ap length_in entry-is ∙ length-said at c (omega (arith, inside, short))

  fits : Fits c.descriptor
  fits = let d = c.descriptor in
      let f = fields_fit d.kind d.encoding d.width d.rows c.block c-sound.0 in
      record { kind = f.kind; encoding = f.encoding; width = f.width; zero = omega (arith, c-sound.1); rows = f.rows }

  descriptor-is : descriptor_in (entry_at j file) ≡ c.descriptor
  descriptor-is = ap descriptor_in entry-is ∙ descriptor-said at c fits

  behind : take (length c.block) (drop at file) ≡ take (length c.block) (drop (length (blocks_of (take j cs))) (blocks_of cs))
  unfolding file_of
  behind =
      let front : List ℕ = length cs ∷ entries_from (directory_end (length cs)) cs in
      let e : at ≡ length front + length (blocks_of (take j cs)) = omega (arith, length-entries cs (directory_end (length cs))) in
      rw e (ap (take (length c.block)) (drop-append-add front (blocks_of cs) (length (blocks_of (take j cs)))))

  named-is : named_by (entry_at j file) file ≡ c.block
  named-is = rw (offset-is, length-is) (behind ∙ block_in cs j there)

  pub none-refused : sheet_number file j ≡ 0
  none-refused = sym (named file j short
      (omega (arith, length-file cs)) (omega (arith, count cs, few)) (omega (arith, count cs, length-file cs)) (omega (arith, count cs, there))
      (omega (arith, offset-is, count cs)) (omega (arith, offset-is, length-is, inside)))

  -- its opening is that of its block, at its place behind the directory and the blocks before it, and its part is the block
  described-own : described_opened c.descriptor c.block ≡ own_opening c
  unfolding described_opened
  described-own = rw (eq-eqb c.descriptor.zero 0 c-sound.1)

  pub laid-found : column_found file j ≡ found_by (own_opening c) at (length c.block)
  unfolding opened_in
  laid-found = rw (none-refused, descriptor-is, named-is, offset-is, length-is, described-own)

  pub laid-part : column_part file j ≡ c.block
  laid-part = part-named file j none-refused ∙ named-is

  pub laid_opens : (column_found file j).number ≡ 0
  unfolding found_by opened opened_by
  laid_opens = rw (laid-found, c-sound.0)

-- there is no column behind the last
pub laid-no-other : (cs : List Filed) → length cs ≤ MOST_COLUMNS → length (file_of cs) ≤ MOST_FILE → (j : ℕ) → length cs ≤ j → (column_found (file_of cs) j).number ≡ NO_COLUMN
laid-no-other cs few short j h =
    let told = no-column (file_of cs) j short (omega (arith, length-file cs)) (omega (arith, count cs, few)) (omega (arith, count cs, length-file cs)) (omega (arith, count cs, h)) in
    sym (ap (λ (x : Found). x.number) (nothing-found (file_of cs) j told (omega arith)))
