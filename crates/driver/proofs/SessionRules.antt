-- The session that a table closes with when all workers have ended.
use Rattle.std.proofs.Common.{◌≡◌, ℕ, ◌≤◌, List, sym, subst, ◌∙◌}
use Rattle.std.specs.Prelude.{length, sum, vec_len}
use Rattle.item_ids.specs.declared.kind.Kind.{Kind}
use Rattle.recorder.specs.Backed.{Queries}
use Rattle.graph_rules.specs.Settings.{Setting, crossing_kinds}
use Rattle.graph_rules.specs.Steps.{Legal, state_after}
use Rattle.graph_rules.specs.Sound.{AreBacked}
use Rattle.sessions.specs.Sessions.{SessionValue, past_entry}
use Rattle.shared_table.specs.Tables.{TableValue, past_of, state_of}
use Rattle.shared_table.specs.Closing.{IsClosing}
use Rattle.shared_table.specs.Closes.{MayClose}
use Rattle.driver.specs.declared.reports.Reports.{Reports}
use Rattle.driver.specs.Sessions.{IsSessionOf, events_needed}
use Rattle.driver.proofs.Counts.{closed_suffices}

module _ (queries : Queries) (t : TableValue) (workers : ℕ) (s : SessionValue) (r : Reports)
    (legal : Legal (past_of t) t.project t.history) (backed : AreBacked (queries.mean t.terms.profile) (queries.reads t.terms.profile) t.history)
    (crossing : t.crossing ≡ crossing_kinds queries.by_profile t.terms.profile t.past)
    (may : MayClose (state_of t)) (closing : IsClosing t.terms t.past t.project (state_of t) s)
    (history_is : r.history ≡ length t.history) (workers_are : vec_len r.events ≡ workers)
    (sum_is : sum r.events.items ≡ length t.history) where
  -- what the table is worked over, with these kinds crossing
  abbrev over : List Kind → Setting
  over crossing = record { held = past_entry t.past; crossing = crossing; profile = t.terms.profile }

  pub session_of : IsSessionOf queries t.terms t.past t.project workers s r
  session_of = record {
    history = t.history;
    events = record {
      legal = subst (λ (c : List Kind). Legal (over c) t.project t.history) crossing legal;
      backed = backed;
      may_close = subst (λ (c : List Kind). MayClose (state_after (over c) t.project t.history)) crossing may;
      closing = subst (λ (c : List Kind). IsClosing t.terms t.past t.project (state_after (over c) t.project t.history) s) crossing closing;
    };
    reports = record {
      history_is = history_is;
      workers_are = workers_are;
      sum_is = sum_is ∙ sym history_is;
      enough = subst (λ (n : ℕ). events_needed s.records ≤ n) (sym history_is)
          (closed_suffices (past_of t) t.project t.history s legal closing.closed);
    };
  }
