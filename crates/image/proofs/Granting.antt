-- What the grants of a file without a fault give, port by port. Assumes nothing.
use Rattle.std.proofs.Common.{◌≡◌, ℕ, zero, suc, ◌+◌, ◌-◌, ◌*◌, ◌<◌, ◌≤◌, List, length, get_or, take, drop, sym, refl, ap, ◌∙◌, subst, inl, inr, arith}
use Rattle.std.proofs.lemmas.List.{get_or-take, get_or-drop}
use Rattle.std.proofs.lemmas.Bool.Decides.{nat_tests}
use Rattle.instructions.specs.declared.field.Side.{Side}
use Rattle.image.specs.declared.fault.FileFault.TheVariants.{Order}
use Rattle.image.specs.declared.part.Part.{Part}
use Rattle.image.specs.declared.part.Part.TheVariants.{Code, Grants}
use Rattle.image.specs.declared.part.Image.{Image}
use Rattle.image.specs.Files.{word_count, start_of_code, count_of_grants, start_of_grants, entry_place, bank_at, port_at, mask_at, key_at}
use Rattle.image.specs.Grants.{bank_number, entry_mask, IsMask}
use Rattle.image.specs.Parts.{IsCode, IsGrants, part_bytes}
use Rattle.image.specs.Reading.{Faultless, IsImage, Granted, Withheld}
use Rattle.image.proofs.Masks.{is_mask_mask_of}

-- keys rise from entry to entry
key_rises : (file : List ℕ) → Faultless file → (j d : ℕ) → suc (j + d) < count_of_grants file → key_at file (entry_place file j) < key_at file (entry_place file (suc (j + d)))
key_rises file faultless j zero below =
    let no : key_at file (entry_place file (suc j)) ≤ key_at file (entry_place file j) → ⊥ = λ h. faultless (Order (entry_place file (suc j))) (j, omega arith, refl, h) in
    grind arith
key_rises file faultless j (suc d) below =
    let k = suc (j + d) in
    let rises : key_at file (entry_place file j) < key_at file (entry_place file k) = key_rises file faultless j d (omega arith) in
    let no : key_at file (entry_place file (suc k)) ≤ key_at file (entry_place file k) → ⊥ = λ h. faultless (Order (entry_place file (suc k))) (k, omega arith, refl, h) in
    grind arith

key_lt : (file : List ℕ) → Faultless file → (j k : ℕ) → j < k → k < count_of_grants file → key_at file (entry_place file j) < key_at file (entry_place file k)
key_lt file faultless j k h below =
    let at : suc (j + (k - suc j)) ≡ k = omega arith in
    subst (λ n. key_at file (entry_place file j) < key_at file (entry_place file n)) at (key_rises file faultless j (k - suc j) (omega arith))

-- so no two entries have one key
entry_by_key : (file : List ℕ) → Faultless file → (j k : ℕ) → j < count_of_grants file → k < count_of_grants file → key_at file (entry_place file j) ≡ key_at file (entry_place file k) → j ≡ k
entry_by_key file faultless j k hj hk same =
    let up : j < k → ⊥ = λ h. omega (arith, key_lt file faultless j k h hk) in
    let down : k < j → ⊥ = λ h. omega (arith, key_lt file faultless k j h hj) in
    omega arith

-- the bytes of the k-th entry, in the grant part and in the file
record Copied (file grants : List ℕ) (k : ℕ) : Type 0 where
  bank : get_or grants (4 * k) 0 ≡ bank_at file (entry_place file k)
  port : get_or grants (4 * k + 1) 0 ≡ port_at file (entry_place file k)
  mask : entry_mask grants k ≡ mask_at file (entry_place file k)

get_or_part : (file grants : List ℕ) (start size : ℕ) → grants ≡ take size (drop start file) → (i p : ℕ) → i < size → p ≡ start + i → get_or grants i 0 ≡ get_or file p 0
get_or_part file grants start size part i p h at =
    ap (λ g. get_or g i 0) part ∙ get_or-take size (drop start file) i 0 h ∙ get_or-drop start file i 0 ∙ ap (λ n. get_or file n 0) (sym at)

copied_part : (file grants : List ℕ) → grants ≡ take (4 * count_of_grants file) (drop (start_of_grants file) file) → (k : ℕ) → k < count_of_grants file → Copied file grants k
copied_part file grants part k h =
    record {
      bank = get_or_part file grants (start_of_grants file) (4 * count_of_grants file) part (4 * k) _ (omega arith) refl;
      port = get_or_part file grants (start_of_grants file) (4 * count_of_grants file) part (4 * k + 1) _ (omega arith) (omega arith);
      mask = get_or_part file grants (start_of_grants file) (4 * count_of_grants file) part (4 * k + 2) _ (omega arith) (omega arith);
    }

-- the entry that gives a port its mask is the one that names it
granted_by_mask : (file grants : List ℕ) → Faultless file → ((k : ℕ) → k < count_of_grants file → Copied file grants k) → length grants ≡ 4 * count_of_grants file → (k : ℕ) → k < count_of_grants file → (s : Side) → bank_number s ≡ bank_at file (entry_place file k) → (m : ℕ) → IsMask grants s (port_at file (entry_place file k)) m → m ≡ mask_at file (entry_place file k)
granted_by_mask file grants faultless copied size k below s bank m (inl (j, hj, named, none, is)) =
    let here : Copied file grants j = copied j (omega arith) in
    let same : j ≡ k = entry_by_key file faultless j k (omega arith) below (grind (arith, nat_tests)) in
    is ∙ here.mask ∙ ap (λ n. mask_at file (entry_place file n)) same
granted_by_mask file grants faultless copied size k below s bank m (inr (none, is)) =
    let here : Copied file grants k = copied k below in
    let no = none k (omega arith) (omega arith) in
    grind (arith, nat_tests)

withheld_by_mask : (file grants : List ℕ) → ((k : ℕ) → k < count_of_grants file → Copied file grants k) → length grants ≡ 4 * count_of_grants file → (s : Side) (port : ℕ) → ((k : ℕ) → k < count_of_grants file → bank_number s ≡ bank_at file (entry_place file k) → port ≡ port_at file (entry_place file k) → ⊥) → (m : ℕ) → IsMask grants s port m → m ≡ 0
withheld_by_mask file grants copied size s port nowhere m (inl (j, hj, named, none, is)) =
    let here : Copied file grants j = copied j (omega arith) in
    absurd (nowhere j (omega arith) (grind (arith, nat_tests)) (grind (arith, nat_tests)))
withheld_by_mask file grants copied size s port nowhere m (inr (none, is)) = is

masks_from_part : (file : List ℕ) (part : Part) → Faultless file → IsGrants file (start_of_grants file) (4 * count_of_grants file) part → Granted file (part_bytes part) × Withheld file (part_bytes part)
masks_from_part file (Code bytes place) faultless h = absurd h
masks_from_part file (Grants bytes place) faultless (at, part, size) =
    let grants = bytes.now in
    let copied = copied_part file grants part in (
      (λ k below s bank. granted_by_mask file grants faultless copied size k below s bank _ (is_mask_mask_of grants s (port_at file (entry_place file k)))),
      (λ s port nowhere. withheld_by_mask file grants copied size s port nowhere _ (is_mask_mask_of grants s port)),
    )

pub is_image_from_parts : (file : List ℕ) (image : Image) → Faultless file → IsCode file (start_of_code file) (2 * word_count file) image.code → IsGrants file (start_of_grants file) (4 * count_of_grants file) image.grants → IsImage file image
is_image_from_parts file image faultless code grants =
    let masks = masks_from_part file image.grants faultless grants in
    record { code = code; grants = grants; granted = masks.0; withheld = masks.1 }
