-- Append's promise: it is what is said of the answer and of each area, and two results that keep it are the same. Assumes nothing.
use Prim.Native.Nat.{ℕ}
use mathlib.Core.Path.{◌≡◌, sym, ◌∙◌}
use mathlib.Core.Bool.{Bool}
use mathlib.Core.List.{List}
use lib.IntN.{ℤ}
use Rattle.append.specs.Appending.{Lent, lent}
use Rattle.builder.specs.declared.Builder.{Builder}
use Rattle.builder.specs.declared.Appended.{Appended}
use Rattle.builder.specs.Building.{Append, appended_times}
use Rattle.builder.specs.Promises.{Appends}

-- areas that are another's one by one
same-lent : (items ends flags counts : List ℕ) (keys : List ℤ) (lens : List ℕ) (a : Lent)
    → items ≡ a.items → ends ≡ a.ends → flags ≡ a.flags → counts ≡ a.counts → keys ≡ a.keys → lens ≡ a.lens
    → lent items ends flags counts keys lens ≡ a
same-lent items ends flags counts keys lens a i e f c k l = whole
  where
    whole : lent items ends flags counts keys lens ≡ lent a.items a.ends a.flags a.counts a.keys a.lens
    whole = rw (i, e, f, c, k, l)

module _ (builder : Builder) (given : Lent) (times : ℕ) (present : Bool) (value : ℤ) (item : List ℕ) where
  abbrev owed : Append
  owed = appended_times builder given times present value item

  pub appends : (x : Appended) (items ends flags counts : List ℕ) (keys : List ℤ) (lens : List ℕ)
      → x ≡ owed.answer
      → items ≡ owed.areas.items → ends ≡ owed.areas.ends → flags ≡ owed.areas.flags
      → counts ≡ owed.areas.counts → keys ≡ owed.areas.keys → lens ≡ owed.areas.lens
      → Appends builder given times present value item x (lent items ends flags counts keys lens)
  appends x items ends flags counts keys lens a i e f c k l =
      record { answered = a; lies = same-lent items ends flags counts keys lens owed.areas i e f c k l }

  pub one-append : (x y : Appended) (a b : Lent) → Appends builder given times present value item x a → Appends builder given times present value item y b → (x ≡ y) × (a ≡ b)
  one-append x y a b p q = (p.answered ∙ sym q.answered, p.lies ∙ sym q.lies)
