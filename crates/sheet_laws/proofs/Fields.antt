-- The fields of a sound block's descriptor have their bits in its bytes. Assumes nothing.
use Rattle.std.specs.Prelude.{Option, Some, None}
use Prim.Native.Nat.{ℕ, ◌≤◌, ◌<◌}
use native.Mathlib.Omega.{arith}
use mathlib.Core.Logic.{⊎_elim}
use mathlib.Core.Bool.{Bool, true, false}
use mathlib.Core.List.{List, []}
use mathlib.Core.Path.{◌≡◌, refl, sym, ap, ◌∙◌}
use lib.Dec.{ltb, eqb}
use lib.ListN.{length}
use borrow.Author.Tests.{ltb-false, lt-ltb, ne_eqb}
use Rattle.limits.specs.Limits.{MOST_BYTES, MOST_WIDTH}
use Rattle.limits.specs.Refusals.{COLUMN, LIMIT}
use Rattle.encode.specs.Kinds.{numbered, kind_of}
use Rattle.area.proofs.Laws.{lt-or-ge}
use Rattle.plain.specs.Rules.{◌if◌}
use Rattle.plain.proofs.Rules.{kept, whole}
use Rattle.format.specs.declared.Encoding.{Encoding}
use Rattle.format.specs.declared.Encoding.TheVariants.{Plain, Nullable, RunLength, RunLengthNullable, Dictionary}
use Rattle.format.specs.declared.Column.{Column}
use Rattle.format.specs.Blocks.{with_encoding, column_of}
use Rattle.format.specs.Opening.{rules_of, most_rows, column_number, open_number}
use Rattle.descriptor.specs.declared.Descriptor.{Descriptor}
use Rattle.descriptor.proofs.BackAndForth.{Fits}
use Rattle.encode.specs.declared.Kind.{Kind}

-- ---- numbers that are too large name no column
no-encoding : (k : Option Kind) (e : ℕ) → 8 ≤ e → with_encoding k e ≡ None
unfolding with_encoding
no-encoding None e h = refl
no-encoding (Some k) e h =
    rw (ne_eqb e 0 (λ q. omega arith), ne_eqb e 1 (λ q. omega arith), ne_eqb e 2 (λ q. omega arith), ne_eqb e 3 (λ q. omega arith), ne_eqb e 4 (λ q. omega arith))

none-encoded : (e : ℕ) → with_encoding None e ≡ None
unfolding with_encoding
none-encoded e = refl

not-numbered : (k : ℕ) → 16 ≤ k → numbered k ≡ None
unfolding numbered
not-numbered k h = rw (
  ne_eqb k 0 (λ q. omega arith),
  ne_eqb k 1 (λ q. omega arith),
  ne_eqb k 2 (λ q. omega arith),
  ne_eqb k 3 (λ q. omega arith),
  ne_eqb k 4 (λ q. omega arith),
  ne_eqb k 5 (λ q. omega arith),
  ne_eqb k 6 (λ q. omega arith),
  ne_eqb k 7 (λ q. omega arith),
  ne_eqb k 9 (λ q. omega arith),
  ne_eqb k 10 (λ q. omega arith),
  ne_eqb k 11 (λ q. omega arith),
)

no_kind : (k w : ℕ) → 16 ≤ k → kind_of k w ≡ None
unfolding kind_of
no_kind k w h = go (eqb w 0) refl
  where
    go : (t : Bool) → eqb w 0 ≡ t → kind_of k w ≡ None
    go true q = rw (ne_eqb k 8 (λ z. omega arith), q) (not-numbered k h)
    go false q = rw (ne_eqb k 8 (λ z. omega arith), q)

no-width : (k w : ℕ) → 256 ≤ w → kind_of k w ≡ None
unfolding kind_of
no-width k w h = go (eqb k 8) refl
  where
    go : (t : Bool) → eqb k 8 ≡ t → kind_of k w ≡ None
    go true q = rw (q, ne_eqb w 0 (λ z. omega arith), lt-ltb MOST_WIDTH w (omega arith))
    go false q = rw (q, ne_eqb w 0 (λ z. omega arith))

-- ---- nor has a block so many rows
rows_few : (e : Encoding) → most_rows e < 281474976710656
unfolding most_rows
rows_few Plain = omega arith
rows_few Nullable = omega arith
rows_few RunLength = omega arith
rows_few RunLengthNullable = omega arith
rows_few Dictionary = omega arith

rows_in : (c : Option Column) (n : ℕ) (b : List ℕ) → column_number c n b ≡ 0 → n < 281474976710656
unfolding column_number
rows_in None n b z = absurd (omega arith)
rows_in (Some x) n b z =
    let a = kept (LIMIT if ltb MOST_BYTES (length b)) _ z in
    let c = kept (LIMIT if ltb (most_rows x.encoding) n) _ a.1 in
    omega (arith, ltb-false (most_rows x.encoding) n (whole LIMIT _ (omega arith) c.0), rows_few x.encoding)

unnamed : (c : Option Column) (n : ℕ) (b : List ℕ) → c ≡ None → column_number c n b ≡ 0 → ⊥
unfolding column_number
unnamed c n b q z = let e : column_number None n b ≡ 0 = rw q at z in omega (arith, e)

-- ---- so a sound block's descriptor fits
module _ (kind encoding width n : ℕ) (b : List ℕ) (sound : open_number kind encoding width n b ≡ 0) where
  named : column_of kind encoding width ≡ None → ⊥
  unfolding open_number
  named q = unnamed (column_of kind encoding width) n b q sound

  low : (a m : ℕ) → (m ≤ a → column_of kind encoding width ≡ None) → a < m
  low a m h = ⊎_elim (λ l. l) (λ g. absurd (named (h g))) (lt-or-ge a m)

  pub fields_fit : Fits (record { kind = kind; encoding = encoding; width = width; zero = 0; rows = n })
  unfolding column_of open_number
  fields_fit = record {
    kind = low kind 16 (λ h. rw (no_kind kind width h) (none-encoded encoding));
    encoding = low encoding 8 (λ h. no-encoding (kind_of kind width) encoding h);
    width = low width 256 (λ h. rw (no-width kind width h) (none-encoded encoding));
    zero = omega arith;
    rows = rows_in (column_of kind encoding width) n b sound;
  }
