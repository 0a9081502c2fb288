-- How what is read and written is seen: an item, items in order, and an item that may be missing.
use Rattle.std.proofs.Common.{ap}
use Rattle.std.specs.Prelude.{◌≡◌, ℕ, List, [], ◌∷◌, map, Option, Some, None, Ok, Err, option_map, refl}
use Rattle.byte_readers.specs.declared.breach.Breach.{Breach}
use Rattle.byte_readers.specs.Reading.{Decoder}

pub record View (A B : Type 0) : Type 0 where
  pub one : A → B
  pub all : List A → List B
  pub perhaps : Option A → Option B
  pub all_is : (items : List A) → all items ≡ map one items
  pub perhaps_is : (item : Option A) → perhaps item ≡ option_map one item

pub same_items : {A : Type 0} (items : List A) → items ≡ map (λ a. a) items
same_items [] = refl
same_items (a ∷ items) = ap (λ as1. a ∷ as1) (same_items items)

pub same_item : {A : Type 0} (item : Option A) → item ≡ option_map (λ a. a) item
same_item None = refl
same_item (Some a) = refl

-- items that are seen as they are
abbrev pub plain : {A : Type 0} → View A A
plain = record {
  one = λ a. a;
  all = λ items. items;
  perhaps = λ item. item;
  all_is = same_items;
  perhaps_is = same_item;
}

-- each item is seen by a function
abbrev pub seen_by : {A B : Type 0} → (A → B) → View A B
seen_by see = record {
  one = see;
  all = map see;
  perhaps = option_map see;
  all_is = λ items. refl;
  perhaps_is = λ item. refl;
}

-- a reader of items answers what the reader of what is seen answers of them
pub record ReadsAsSeen {A B : Type 0} (one : A → B) (seen : Decoder B) (itself : Decoder A) : Type 0 where
  pub reads : (bytes : List ℕ) (a : A) (rest : List ℕ) → seen bytes ≡ Ok (one a, rest)
      → itself bytes ≡ Ok (a, rest)
  pub refuses : (bytes : List ℕ) (breach : Breach) → seen bytes ≡ Err breach
      → itself bytes ≡ Err breach

pub tells_plain : {A : Type 0} (reading : Decoder A) → ReadsAsSeen (λ a. a) reading reading
tells_plain reading =
    record { reads = λ bytes a rest same. same; refuses = λ bytes breach same. same }
