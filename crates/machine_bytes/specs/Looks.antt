-- Looking at a machine over bytes: the machine crosses as its header, "20 first as always; refused, the figures are 0".
use Rattle.std.specs.Prelude.{ℕ, ◌≡◌, List, get_or, ltb}
use Rattle.slices.specs.Choose.{choose}
use Rattle.numbers.specs.declared.Refusal.TheVariants.{PairNumber}
use Rattle.numbers.specs.Numbers.{refusal_number}
use Rattle.pages.specs.declared.Model.{Model}
use Rattle.pages.specs.declared.Model.TheVariants.{K48, K128}
use Rattle.pages.specs.declared.Place.{Place}
use Rattle.pages.specs.declared.Place.TheVariants.{Rom, Ram}
use Rattle.pages.specs.Pages.{place_of}
use Rattle.spectrum.specs.declared.Attachment.{Attachment}
use Rattle.spectrum.specs.declared.Attachment.TheVariants.{Nothing, InterfaceI, Mgt}
use Rattle.header_canonical.specs.declared.DecodedHeader.{DecodedHeader}
use Rattle.header_canonical.specs.Canonical.{decoded_of, bad_header}

-- "model is 0 for 48K, 1 for 128K"
abbrev pub model_number : Model → ℕ
model_number K48 = 0
model_number K128 = 1

-- "attachment 0 none, 1 Interface I, 2 M.G.T."
abbrev pub attachment_number : Attachment → ℕ
attachment_number Nothing = 0
attachment_number InterfaceI = 1
attachment_number Mgt = 2

pub record ToldModel : Type 0 where
  pub answer : ℕ
  pub model : ℕ
  pub attachment : ℕ

abbrev pub model_decoded : DecodedHeader → ToldModel
model_decoded t =
    choose t.canonical
    (record { answer = 0; model = model_number t.machine.model; attachment = attachment_number t.machine.attachment })
    (record { answer = bad_header; model = 0; attachment = 0 })

unfoldable pub model_of : List ℕ → ToldModel
model_of header = model_decoded (decoded_of header)

pub record TellsModel (x : ToldModel) (r m a : ℕ) : Type 0 where
  pub answer : r ≡ x.answer
  pub model : m ≡ x.model
  pub attachment : a ≡ x.attachment

-- the value of a register pair, "20, 32"
pub record ToldPair : Type 0 where
  pub answer : ℕ
  pub value : ℕ

abbrev pub pair_decoded : DecodedHeader → ℕ → ToldPair
pair_decoded t p =
    choose t.canonical
    (choose (ltb 11 p) (record { answer = refusal_number PairNumber; value = 0 }) (record { answer = 0; value = get_or t.machine.pairs p 0 }))
    (record { answer = bad_header; value = 0 })

unfoldable pub pair_of : List ℕ → ℕ → ToldPair
pair_of header p = pair_decoded (decoded_of header) p

pub record TellsPair (x : ToldPair) (r v : ℕ) : Type 0 where
  pub answer : r ≡ x.answer
  pub value : v ≡ x.value

-- "where an address leads as paging is now; in ROM page and offset are 0 (*in_rom 1)"
pub record ToldPlace : Type 0 where
  pub answer : ℕ
  pub rom : ℕ
  pub page : ℕ
  pub offset : ℕ

abbrev pub place_told : Place → ToldPlace
place_told Rom = record { answer = 0; rom = 1; page = 0; offset = 0 }
place_told (Ram page offset) = record { answer = 0; rom = 0; page = page; offset = offset }

abbrev pub address_decoded : DecodedHeader → ℕ → ToldPlace
address_decoded t address =
    choose t.canonical
    (place_told (place_of t.machine.model t.machine.out7ffd address))
    (record { answer = bad_header; rom = 0; page = 0; offset = 0 })

unfoldable pub address_of : List ℕ → ℕ → ToldPlace
address_of header address = address_decoded (decoded_of header) address

pub record TellsPlace (x : ToldPlace) (r i p o : ℕ) : Type 0 where
  pub answer : r ≡ x.answer
  pub rom : i ≡ x.rom
  pub page : p ≡ x.page
  pub offset : o ≡ x.offset
