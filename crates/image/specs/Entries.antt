-- What is found of one entry of the grants. Assumes nothing.
--   IsSound file p             its bank is at most 1, and its spare byte 0
--   IsKey file p least key     a sound entry and its key, which is not below the least that may come
--   IsRefused file p place least f   the fault of any other entry, reported at place: first its bytes count, then its key
use Rattle.std.specs.Prelude.{◌≡◌, ℕ, ◌<◌, ◌≤◌, ◌⊎◌, List}
use Rattle.image.specs.declared.fault.FileFault.{FileFault}
use Rattle.image.specs.declared.fault.FileFault.TheVariants.{Entry, Order}
use Rattle.image.specs.Files.{bank_at, spare_at, key_at}

pub record IsSound (file : List ℕ) (p : ℕ) : Type 0 where
  pub bank : bank_at file p ≤ 1
  pub spare : spare_at file p ≡ 0

pub record IsKey (file : List ℕ) (p least key : ℕ) : Type 0 where
  pub sound : IsSound file p
  pub value : key ≡ key_at file p
  pub rises : least ≤ key

abbrev pub IsRefused : List ℕ → ℕ → ℕ → ℕ → FileFault → Type 0
IsRefused file p place least f =
    ((f ≡ Entry place) × ((1 < bank_at file p) ⊎ (0 < spare_at file p)))
    ⊎ ((f ≡ Order place) × IsSound file p × (key_at file p < least))
