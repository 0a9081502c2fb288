-- Keys of names that are given.
use Rattle.std.proofs.Common.{◌≡◌, ◌↔◌, ◌∙◌, sym}
use Rattle.item_ids.specs.declared.key.Key.{Key}
use Rattle.item_ids.specs.Keys.{kind_of, class_of, member_of}
use Rattle.answer_fixtures.specs.declared.keys.KeyParts.{KeyParts}
use Rattle.answer_fixtures.specs.Telling.{IsKeyOf, AreAlike}

-- kind, class and member tell keys apart
abbrev pub TellKeysApart : Type 0
TellKeysApart = (a b : Key) → kind_of a ≡ kind_of b → class_of a ≡ class_of b → member_of a ≡ member_of b → a ≡ b

pub one_key : TellKeysApart → (asked : KeyParts) (a b : Key) → IsKeyOf asked a → IsKeyOf asked b → a ≡ b
one_key apart asked a b first second =
    apart a b (first.kind ∙ sym second.kind) (first.class ∙ sym second.class) (first.member ∙ sym second.member)

-- what a key of the names has for names
pub named_alike : (asked other : KeyParts) (key : Key) → IsKeyOf asked key → (IsKeyOf other key ↔ AreAlike asked other)
named_alike asked other key first = (
  (λ second. record {
    kind = sym first.kind ∙ second.kind;
    class = sym first.class ∙ second.class;
    member = sym first.member ∙ second.member;
  }),
  (λ same. record {
    kind = first.kind ∙ same.kind;
    class = first.class ∙ same.class;
    member = first.member ∙ same.member;
  }),
)
