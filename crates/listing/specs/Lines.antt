-- What the lines of a listing say. Assumes nothing.
--   ListsWord code a r   r is the word at the address a of the code, with its meaning, and none only outside the code
--   ListsGrant g k r     r is the k-th entry of the grants g, and none only past the last one
use Rattle.std.specs.Prelude.{◌≡◌, ℕ, ◌+◌, ◌*◌, ◌<◌, ◌≤◌, cond, List, Some, None, Option, ◌==◌, slice_index}
use Rattle.instructions.specs.declared.field.Side.TheVariants.{Left, Right}
use Rattle.words.specs.Code.{words_in, word_at}
use Rattle.words.specs.Words.{meaning}
use Rattle.image.specs.Grants.{entries, entry_mask}
use Rattle.listing.specs.declared.word_line.WordLine.{WordLine}
use Rattle.listing.specs.declared.grant_line.GrantLine.{GrantLine}

pub record IsWordLine (code : List ℕ) (a : ℕ) (line : WordLine) : Type 0 where
  pub inside : a < words_in code
  pub address : line.address ≡ a
  pub word : line.word ≡ word_at code a
  pub meaning : line.meaning ≡ meaning (word_at code a)

abbrev pub ListsWord : List ℕ → ℕ → Option WordLine → Type 0
ListsWord code a (Some line) = IsWordLine code a line
ListsWord code a None = words_in code ≤ a

pub record IsGrantLine (grants : List ℕ) (k : ℕ) (line : GrantLine) : Type 0 where
  pub inside : k < entries grants
  pub side : line.side ≡ cond (slice_index grants (4 * k) == 0) Left Right
  pub port : line.port ≡ slice_index grants (4 * k + 1)
  pub mask : line.mask ≡ entry_mask grants k

abbrev pub ListsGrant : List ℕ → ℕ → Option GrantLine → Type 0
ListsGrant grants k (Some line) = IsGrantLine grants k line
ListsGrant grants k None = entries grants ≤ k
