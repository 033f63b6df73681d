-- The mask that the first entries of a grant part give, entry by entry. Assumes nothing.
use Rattle.std.proofs.Common.{◌≡◌, ℕ, zero, suc, ◌+◌, ◌<◌, ◌≤◌, Bool, true, false, cond, ◌⊎◌, List, refl, inl, inr, add-one, arith}
use Rattle.instructions.specs.declared.field.Side.{Side}
use Rattle.image.specs.Grants.{names, entries, entry_mask, mask_among, mask_of, bank_number, IsMask}

pub mask_among_none : (g : List ℕ) (b p : ℕ) → mask_among g b p 0 ≡ 0
unfolding mask_among
mask_among_none g b p = refl

pub mask_among_more : (g : List ℕ) (b p k : ℕ) → mask_among g b p (k + 1) ≡ cond (names g k b p) (entry_mask g k) (mask_among g b p k)
unfolding mask_among
mask_among_more g b p k = rw (add-one k)

-- no entry from one place up to another is for the bank and the port
abbrev NoneUpTo : List ℕ → ℕ → ℕ → ℕ → ℕ → Type 0
NoneUpTo g b p from n = (k : ℕ) → from ≤ k → k < n → names g k b p ≡ false

-- the law of a mask, for the first n entries
abbrev LastOf : List ℕ → ℕ → ℕ → ℕ → ℕ → Type 0
LastOf g b p n m =
    ((k : ℕ) × (k < n) × (names g k b p ≡ true) × NoneUpTo g b p (suc k) n × (m ≡ entry_mask g k))
    ⊎ (NoneUpTo g b p 0 n × (m ≡ 0))

none_up_to_more : (g : List ℕ) (b p from n : ℕ) → NoneUpTo g b p from n → names g n b p ≡ false → NoneUpTo g b p from (suc n)
none_up_to_more g b p from n none here k le lt = grind arith

last_of_more : (g : List ℕ) (b p n m : ℕ) (t : Bool) → names g n b p ≡ t → LastOf g b p n m → LastOf g b p (suc n) (cond t (entry_mask g n) m)
last_of_more g b p n m true here h = inl (n, omega arith, here, λ k le lt. absurd (omega arith), refl)
last_of_more g b p n m false here (inl (k, lt, named, none, is)) =
    inl (k, omega arith, named, none_up_to_more g b p (suc k) n none here, is)
last_of_more g b p n m false here (inr (none, is)) = inr (none_up_to_more g b p 0 n none here, is)

last_of_mask_among : (g : List ℕ) (b p n : ℕ) → LastOf g b p n (mask_among g b p n)
unfolding mask_among
last_of_mask_among g b p zero = inr ((λ k le lt. absurd (omega arith)), refl)
last_of_mask_among g b p (suc n) =
    last_of_more g b p n (mask_among g b p n) (names g n b p) refl (last_of_mask_among g b p n)

pub is_mask_mask_of : (g : List ℕ) (s : Side) (p : ℕ) → IsMask g s p (mask_of g s p)
is_mask_mask_of g s p = last_of_mask_among g (bank_number s) p (entries g)
