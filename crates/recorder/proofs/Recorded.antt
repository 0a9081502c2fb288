-- Lists of reads that grow.
use Rattle.std.proofs.Common.{Contains, List, [], ◌∷◌, ◌++◌, None}
use Rattle.std.specs.List.{AllByRecursion}
use Rattle.std.proofs.lemmas.List.Elements.{All-contains, All-from_recursion}
use Rattle.item_ids.specs.declared.key.Key.{Key}
use Rattle.item_ids.proofs.Lists.{all_push, all_map, once_push}
use Rattle.result_bytes.specs.declared.value.Value.{Value}
use Rattle.result_bytes.specs.Values.{IsOfKind}
use Rattle.recorder.specs.Backed.{ReadValue, IsTold}
use Rattle.recorder.specs.Recording.{IsUnread, KeepsReads}
use Rattle.recorder.specs.declared.reader.ReadFault.{ReadFault}

pub all_at : {X : Type 0} (P : X → Type 0) (xs : List X) (x : X) → Contains xs x → AllByRecursion P xs → P x
all_at P xs x c h = All-contains P xs x (All-from_recursion P xs h) c

-- the reader may still give what it gave
pub keeps_after : (A B : Key → Value → Type 0) (F G : Key → ReadFault → Type 0) → ((q : Key) (v : Value) → A q v → B q v) → (told : List ReadValue) → KeepsReads A F told None → KeepsReads B G told None
keeps_after A B F G f told k = record {
  answers = all_map (λ t. A t.key t.value) (λ t. B t.key t.value) (λ t. f t.key t.value) told k.answers;
  held = k.held;
  kinds = k.kinds;
  once = k.once;
  refusal = tt;
}

-- and its new answer too
pub keeps_last : (A : Key → Value → Type 0) (F : Key → ReadFault → Type 0) (told : List ReadValue) (k : Key) (v : Value) → KeepsReads A F told None → A k v → IsTold (record { key = k; value = v }) → IsOfKind k v → IsUnread k told → KeepsReads A F (told ++ record { key = k; value = v } ∷ []) None
keeps_last A F told k v h a w o u = record {
  answers = all_push (λ t. A t.key t.value) told (record { key = k; value = v }) h.answers a;
  held = all_push IsTold told (record { key = k; value = v }) h.held w;
  kinds = all_push (λ t. IsOfKind t.key t.value) told (record { key = k; value = v }) h.kinds o;
  once = once_push (λ t. t.key) told (record { key = k; value = v }) h.once u;
  refusal = tt;
}
