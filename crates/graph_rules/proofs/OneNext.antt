-- There is only one next session.
use Rattle.std.proofs.Common.{◌≡◌, List, refl, sym, ap, ◌∙◌, subst, arith}
use Rattle.std.specs.Prelude.{Contains}
use Rattle.std.specs.declared.cmp.Ordering.TheVariants.{Less, Greater}
use Rattle.std.specs.Ordering.{ordering_reverse}
use Rattle.item_ids.specs.declared.key.Key.{Key}
use Rattle.item_ids.specs.Keys.{key_total}
use Rattle.ordered_names.proofs.Alike.{one_list}
use Rattle.result_bytes.specs.declared.value.Value.{Value}
use Rattle.recorder.specs.Projects.{Project}
use Rattle.recorder.specs.Backed.{Meaning, ReadLists}
use Rattle.sessions.specs.declared.mark.Mark.{Mark}
use Rattle.sessions.specs.declared.mark.Mark.TheVariants.{Input, Green, Executed}
use Rattle.sessions.specs.Sessions.{Entry}
use Rattle.graph_rules.specs.Settings.{Setting}
use Rattle.graph_rules.specs.Graphs.{KeyBefore}
use Rattle.graph_rules.specs.Next.{HasMark, IsNextEntry, AreNext}

not_both : (a b : Key) → KeyBefore a b → KeyBefore b a → ⊥
not_both a b h k = let e : Less ≡ Greater = sym h ∙ (key_total.antisymm a b ∙ ap ordering_reverse k) in absurd cc

module _ (mean : Meaning) (reads : ReadLists) (over : Setting) (p : Project) where
  one_mark : (q : Key) (m n : Mark) → HasMark mean reads over p q m → HasMark mean reads over p q n → m ≡ n
  one_mark q Input Input h k = refl
  one_mark q Input Green h k = absurd (let l = k.0 in omega arith)
  one_mark q Input Executed h k = absurd (let l = k.0 in omega arith)
  one_mark q Green Input h k = absurd (let l = h.0 in omega arith)
  one_mark q Green Green h k = refl
  one_mark q Green Executed h k = absurd (k.1 h.1)
  one_mark q Executed Input h k = absurd (let l = h.0 in omega arith)
  one_mark q Executed Green h k = absurd (h.1 k.1)
  one_mark q Executed Executed h k = refl

  abbrev made : Key → Mark → List Key → Value → Entry
  made k m es v = record { key = k; mark = m; reads = es; value = v }

  one_entry : (r x : Entry) → r.key ≡ x.key → IsNextEntry mean reads over p r → IsNextEntry mean reads over p x → r ≡ x
  one_entry r x e h k =
      let m : r.mark ≡ x.mark = one_mark x.key r.mark x.mark (subst (λ (q : Key). HasMark mean reads over p q r.mark) e h.mark) k.mark in
      let v : r.value ≡ x.value = h.value ∙ (ap (mean p) e ∙ sym k.value) in
      let es : r.reads ≡ x.reads = h.edges ∙ (ap (reads p) e ∙ sym k.edges) in
      ap (λ q. made q r.mark r.reads r.value) e ∙ (ap (λ n. made x.key n r.reads r.value) m
      ∙ (ap (λ ks. made x.key x.mark ks r.value) es ∙ ap (made x.key x.mark x.reads) v))

  into : (a b : List Entry) → AreNext mean reads over p a → AreNext mean reads over p b → (z : Entry) → Contains a z → Contains b z
  into a b h k z has =
      let here = h.each z has in
      let there = k.all z.key here.reached in
      subst (λ (r : Entry). Contains b r) (one_entry there.0 z there.2 (k.each there.0 there.1) here) there.1

  pub next_is_one : (a b : List Entry) → AreNext mean reads over p a → AreNext mean reads over p b → a ≡ b
  next_is_one a b h k =
      one_list Entry (λ r x. KeyBefore r.key x.key) (λ r x l g. not_both r.key x.key l g) a b h.ascending k.ascending (into a b h k) (into b a k h)
