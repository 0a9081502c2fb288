-- The order in which the keys of a legal history become done.
use Rattle.std.proofs.Common.{◌≡◌, List, [], ◌∷◌, ◌++◌, refl, sym, ap, ◌∙◌, subst, Option, Some, None, option_map}
use Rattle.item_ids.specs.declared.key.Key.{Key}
use Rattle.recorder.specs.Projects.{Project}
use Rattle.recorder.specs.Backed.{keys}
use Rattle.sessions.specs.declared.mark.Mark.TheVariants.{Executed}
use Rattle.sessions.specs.Sessions.{Entry}
use Rattle.graph_rules.specs.Pasts.{Past}
use Rattle.graph_rules.specs.Settings.{Setting, kept}
use Rattle.graph_rules.specs.Steps.{Status, Done, State, Event, Claim, MarkGreen, Begin, Finish, Fail, opening, with_status, IsNotDone, AllUnchanged, walk, MayStep, green, after, after_all, AreSteps, Legal, state_after}
use Rattle.graph_rules.specs.Histories.{Keeps, MakesDone, HasEdgesDone, IsOrderly}
use Rattle.graph_rules.proofs.KeyRules.{same_refl}
use Rattle.graph_rules.proofs.Keeping.{keeps_all, walked_done, held_done}

pub after_all_append : (over : Setting) (s : State) (h k : List Event) → after_all over s (h ++ k) ≡ after_all over (after_all over s h) k
after_all_append over s [] k = refl
after_all_append over s (x ∷ h) k = after_all_append over (after over s x) h k

pub steps_append : (over : Setting) (s : State) (h k : List Event) → AreSteps over s h → AreSteps over (after_all over s h) k → AreSteps over s (h ++ k)
steps_append over s [] k front rest = rest
steps_append over s (x ∷ h) k front rest = (front.0, steps_append over (after over s x) h k front.1 rest)

pub steps_rest : (over : Setting) (s : State) (h k : List Event) → AreSteps over s (h ++ k) → AreSteps over (after_all over s h) k
steps_rest over s [] k steps = steps
steps_rest over s (x ∷ h) k steps = steps_rest over (after over s x) h k steps.1

not_yet : (over : Setting) (s : State) (e : Event) (q : Key) → MayStep over s e → MakesDone e q → IsNotDone (s.at q)
not_yet over s (Claim w k) q may is = elim is [ ]
not_yet over s (MarkGreen w k) q may is = subst (λ (x : Key). IsNotDone (s.at x)) is (rw may.1 tt)
not_yet over s (Begin w k) q may is = elim is [ ]
not_yet over s (Finish w o) q may is = subst (λ (x : Key). IsNotDone (s.at x)) is (rw may.1 tt)
not_yet over s (Fail w) q may is = elim is [ ]

written : (s t : State) (q : Key) (x : Status) → HasEdgesDone s x → HasEdgesDone s ((with_status t q x).at q)
written s t q x h = rw (same_refl q) h

green_edges : (past : Past) (s : State) (r : Option Entry) → option_map (λ x. walk past s x.reads) r ≡ Some AllUnchanged → HasEdgesDone s (green r)
green_edges past s None e = absurd (cc)
green_edges past s (Some r) e = walked_done past s r.reads (let a : walk past s r.reads ≡ AllUnchanged = cc in a)

edges_done : (over : Setting) (s : State) (e : Event) (q : Key) → MayStep over s e → MakesDone e q → HasEdgesDone s ((after over s e).at q)
edges_done over s (Claim w k) q may is = elim is [ ]
edges_done over s (MarkGreen w k) q may is =
    subst (λ (x : Key). HasEdgesDone s ((with_status s k (green (kept over k))).at x)) is
    (written s s k (green (kept over k)) (green_edges over.held s (kept over k) may.2))
edges_done over s (Begin w k) q may is = elim is [ ]
edges_done over s (Finish w o) q may is =
    let x = Done o.value (keys o.told) Executed in
    subst (λ (k : Key). HasEdgesDone s ((with_status s o.key x).at k)) is (written s s o.key x (held_done s o.told may.2))
edges_done over s (Fail w) q may is = elim is [ ]

pub orderly : (over : Setting) (p : Project) (h : List Event) → Legal over p h → IsOrderly over p h
orderly over p h legal = record {
  stays = λ front rest is.
      let steps : AreSteps over (opening p) (front ++ rest) = subst (AreSteps over (opening p)) (sym is) legal in
      let keeps = keeps_all over (after_all over (opening p) front) rest (steps_rest over (opening p) front rest steps) in
      subst (λ (t : State). Keeps (state_after over p front) t) (sym (after_all_append over (opening p) front rest) ∙ ap (after_all over (opening p)) is) keeps;
  once = λ front e rest q is makes. not_yet over (state_after over p front) e q (may front e rest is) makes;
  edges_first = λ front e rest q is makes. edges_done over (state_after over p front) e q (may front e rest is) makes;
}
  where
    may : (front : List Event) (e : Event) (rest : List Event) → front ++ e ∷ rest ≡ h → MayStep over (state_after over p front) e
    may front e rest is = (steps_rest over (opening p) front (e ∷ rest) (subst (AreSteps over (opening p)) (sym is) legal)).0
