-- Rules for steps.
use Rattle.std.proofs.Common.{◌≡◌, ◌⊎◌, inl, inr, sym, ◌∙◌, ap, subst, refl, IfSome, Option, option_map, Some, None}
use Rattle.item_ids.specs.declared.key.Key.{Key}
use Rattle.result_bytes.specs.declared.value.Value.{Value}
use Rattle.recorder.specs.Recording.{Recording, key_of, IsUnread, IsForMemory, IsByReader, Answers, RefusesRead}
use Rattle.recorder.specs.Programs.{Prog, Ask, Reached, Again, First, IsAt, Halts, IsAsked, Goes, GivesUp}
use Rattle.recorder.specs.declared.reader.ReadFault.{ReadFault}
use Rattle.recorder.specs.declared.refused.Refused.{Refused}
use Rattle.recorder.specs.declared.runner.RunFault.{RunFault}
use Rattle.recorder.specs.declared.runner.RunFault.TheVariants.{Read, OutOfMemory}

-- ---- one read

pub ask_answered : {D : Type 0} (prog : Prog) (k : Key) (f : Value → Prog) (v : Value) (old new : Recording D) → Answers old k v new → IsAt prog old (Ask k f) → IsAt prog new (f v)
ask_answered prog k f v old new a s = record {
  reached = elim a.told [
    | inl h ↦ subst (λ r. Reached prog r.told (f v)) (sym h.0) (Again old.told k f v s.reached h.1)
    | inr h ↦ subst (λ told. Reached prog told (f v)) (sym h.0) (First old.told k f v s.reached h.1)
  ];
  unrefused = a.after;
}

module _ {D : Type 0} (prog : Prog) (faults : Key → ReadFault → Type 0) (k : Key) (f : Value → Prog) (e : ReadFault) (old new : Recording D) where
  abbrev Kept : Option Refused → Type 0
  Kept o = IfSome o (λ x. IfSome x.key (IsAsked old.told (Ask k f)))

  kept_first : (o : Option Refused) → IfSome o (λ r. IsForMemory r ⊎ (IsByReader faults k r × IsUnread k old.told)) → Kept o
  kept_first None h = tt
  kept_first (Some x) h = elim h [
    | inl m ↦ subst (λ o. IfSome o (IsAsked old.told (Ask k f))) (sym m.1) tt
    | inr m ↦ subst (λ o. IfSome o (IsAsked old.told (Ask k f))) (sym m.0.0) (m.1, (f, refl))
  ]

  key_kept : (o : Option Refused) → Kept o → IfSome (key_of {D = D} (record { inner = new.inner; told = new.told; refused = o })) (IsAsked old.told (Ask k f))
  key_kept None h = tt
  key_kept (Some x) h = h

  pub ask_refused : RefusesRead faults old k e new → IsAt prog old (Ask k f) → Halts prog (Read e) new
  ask_refused r s = record {
    rest = Ask k f;
    reached = subst (λ told. Reached prog told (Ask k f)) (sym r.told) s.reached;
    refused = subst (λ told. IfSome (key_of new) (IsAsked told (Ask k f))) (sym r.told)
        (key_kept new.refused (elim r.since [
          | inl h ↦ subst Kept (sym s.unrefused ∙ sym (ap (λ r. r.refused) h)) tt
          | inr h ↦ kept_first new.refused h.kept
        ]));
    fault = sym r.fault;
  }

pub halts_memory : {D : Type 0} (prog p : Prog) (r : Recording D) → IsAt prog r p → Halts prog OutOfMemory r
halts_memory prog p r s = record {
  rest = p;
  reached = s.reached;
  refused = none r.refused s.unrefused;
  fault = sym (ap (option_map (λ x. x.fault)) s.unrefused);
}
  where
    none : (o : Option Refused) → o ≡ None → IfSome (key_of {D = _} (record { inner = r.inner; told = r.told; refused = o })) (IsAsked r.told p)
    none None e = tt
    none (Some x) e = cc

-- ---- steps one after the other

module _ {X D : Type 0} where
  pub goes_done : (x y : X) (r : Recording D) → x ≡ y → Goes (λ (k : X → Prog). k x) r y r
  goes_done x y r e = record { goes = λ prog k s. subst (λ z. IsAt prog r (k z)) e s }

  pub memory_gone : (step : (X → Prog) → Prog) (r : Recording D) (e : RunFault) → e ≡ OutOfMemory → GivesUp step r e r
  memory_gone step r e h = record { halts = λ prog k s. subst (λ f. Halts prog f r) (sym h) (halts_memory prog (step k) r s) }

module _ {X Y D : Type 0} (step : (Y → Prog) → Prog) (rest : (X → Prog) → Y → Prog) where
  pub step_then : (v : Y) (y : X) (old mid new : Recording D) → Goes step old v mid → Goes (λ k. rest k v) mid y new → Goes (λ k. step (rest k)) old y new
  step_then v y old mid new p q = record { goes = λ prog k s. q.goes prog k (p.goes prog (rest k) s) }

  pub step_then_up : (v : Y) (e : RunFault) (old mid new : Recording D) → Goes step old v mid → GivesUp (λ k. rest k v) mid e new → GivesUp (λ k. step (rest k)) old e new
  step_then_up v e old mid new p q = record { halts = λ prog k s. q.halts prog k (p.goes prog (rest k) s) }

  pub step_up : (e : RunFault) (old new : Recording D) → GivesUp step old e new → GivesUp (λ k. step (rest k)) old e new
  step_up e old new p = record { halts = λ prog k s. p.halts prog (rest k) s }
