-- A trail of causes that goes on.
use Rattle.std.proofs.Common.{◌≡◌, ℕ, ◌+◌, ◌<◌, arith, List, [], ◌∷◌, ◌++◌, Option, Some, None, refl, sym, ap, subst, append_assoc, append-nil}
use Rattle.std.specs.Prelude.{IfSome}
use Rattle.item_ids.specs.declared.key.Key.{Key}
use Rattle.item_ids.specs.declared.kind.Kind.{Kind}
use Rattle.item_ids.specs.Inputs.{rank}
use Rattle.sessions.specs.Sessions.{SessionValue, IsSession}
use Rattle.session_text.specs.declared.causes.cause.Why.{Why}
use Rattle.session_text.specs.Causes.{IsOfEither, IsRightWhy, IsTrail, red_key}
use Rattle.session_text.proofs.CauseRules.{red_leads}

-- behind these whys the trail goes on from the next key
abbrev pub LeadsTo : Key → List Why → Option Key → Type 0
LeadsTo q whys next = (rest : List Why) → IsTrail next rest → IsTrail (Some q) (whys ++ rest)

-- how many ranks are left
abbrev pub ranks_left : Option Key → ℕ
ranks_left None = 0
ranks_left (Some q) = rank q + 1

pub leads_first : (q : Key) → LeadsTo q [] (Some q)
leads_first q rest t = t

pub leads_more : (q : Key) (whys : List Why) (next : Key) (why : Why) → LeadsTo q whys (Some next) → why.key.now ≡ next → LeadsTo q (whys ++ why ∷ []) (red_key why.cause)
leads_more q whys next why leads is rest t =
    subst (λ (ws : List Why). IsTrail (Some q) ws) (sym (append_assoc whys (why ∷ []) rest)) (leads (why ∷ rest) (ap (λ (k : Key). Some k) (sym is), t))

pub trail_ends : (q : Key) (whys : List Why) → LeadsTo q whys None → IsTrail (Some q) whys
trail_ends q whys leads = subst (λ (ws : List Why). IsTrail (Some q) ws) (append-nil whys) (leads [] refl)

-- what is next has a record, and is of lower rank
pub next_there : (was : Option SessionValue) → IfSome was IsSession → (now : SessionValue) (crossing : List Kind) (why : Why) → IsRightWhy was now crossing why → (next : Option Key)
    → next ≡ red_key why.cause → IfSome next (IsOfEither was now)
next_there was session now crossing why right None is = tt
next_there was session now crossing why right (Some e) is = (red_leads was session now crossing why.key.now why.cause e right.cause (sym is)).0

pub next_lower : (was : Option SessionValue) → IfSome was IsSession → (now : SessionValue) (crossing : List Kind) (why : Why) → IsRightWhy was now crossing why → (next : Option Key)
    → next ≡ red_key why.cause → ranks_left next < rank why.key.now + 1
next_lower was session now crossing why right None is = omega arith
next_lower was session now crossing why right (Some e) is =
    let lower : rank e < rank why.key.now = (red_leads was session now crossing why.key.now why.cause e right.cause (sym is)).1 in
    omega (arith, lower)
