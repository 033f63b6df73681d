-- Which bits of a port the grants let a program change. Assumes nothing.
--   a grant part     four bytes an entry: bank (0 left, 1 right), port, mask and a spare byte
--   bank_number s    the number that stands for a bank in an entry
--   names g k b p    whether the k-th entry of the grants g is for the bank b and the port p
--   mask_of g s p    the mask of a port: a bit of 1 may be changed, and a port without an entry has mask 0
--   IsMask g s p m   the same as a law: m is the mask of an entry for the port which no later entry is for, and 0 only where there is none
use Rattle.std.specs.Prelude.{◌≡◌, ℕ, zero, suc, ◌+◌, ◌*◌, ◌/◌, ◌<◌, ◌≤◌, Bool, true, false, cond, ◌&&◌, ◌⊎◌, List, length, ◌==◌, slice_index}
use Rattle.instructions.specs.declared.field.Side.{Side}
use Rattle.instructions.specs.declared.field.Side.TheVariants.{Left, Right}

abbrev pub bank_number : Side → ℕ
bank_number Left = 0
bank_number Right = 1

abbrev pub entries : List ℕ → ℕ
entries grants = length grants / 4

abbrev pub names : List ℕ → ℕ → ℕ → ℕ → Bool
names grants k bank port = slice_index grants (4 * k) == bank && slice_index grants (4 * k + 1) == port

abbrev pub entry_mask : List ℕ → ℕ → ℕ
entry_mask grants k = slice_index grants (4 * k + 2)

-- the mask that the first n entries give
unfoldable pub mask_among : List ℕ → ℕ → ℕ → ℕ → ℕ
mask_among grants bank port zero = 0
mask_among grants bank port (suc n) = cond (names grants n bank port) (entry_mask grants n) (mask_among grants bank port n)

abbrev pub mask_of : List ℕ → Side → ℕ → ℕ
mask_of grants side port = mask_among grants (bank_number side) port (entries grants)

abbrev pub NoneNames : List ℕ → Side → ℕ → ℕ → Type 0
NoneNames grants side port from =
    (k : ℕ) → from ≤ k → k < entries grants → names grants k (bank_number side) port ≡ false

abbrev pub IsMask : List ℕ → Side → ℕ → ℕ → Type 0
IsMask grants side port m =
    ((k : ℕ) × (k < entries grants) × (names grants k (bank_number side) port ≡ true) × NoneNames grants side port (suc k) × (m ≡ entry_mask grants k))
    ⊎ (NoneNames grants side port 0 × (m ≡ 0))
