-- A loop up a chain.
use Rattle.std.proofs.Common.{◌≡◌, ℕ, suc, ◌+◌, ◌-◌, ◌<◌, ◌≤◌, List, [], length, sym, ap, subst, arith}
use Rattle.mj_tree.specs.Trees.{Name}
use Rattle.result_bytes.specs.declared.files.IndexRow.{IndexRow}
use Rattle.result_bytes.specs.declared.parts.ChainEnd.{ChainEnd}
use Rattle.result_bytes.specs.declared.parts.ChainEnd.TheVariants.{Top}
use Rattle.result_bytes.specs.Payloads.{ChainValue}
use Rattle.recorder.specs.Recording.{Recording}
use Rattle.recorder.specs.Programs.{Prog, IsAt, Goes, GivesUp}
use Rattle.recorder.specs.declared.runner.RunFault.{RunFault}
use Rattle.member_queries.specs.declared.supers.Climb.TheVariants.{At, Over}
use Rattle.member_queries.specs.Supers.{chain, climb_step, climb_on, chain_steps}

-- A loop that began at old stands before its round i, with these names and this next class, at now.
pub record ClimbAt {D : Type 0} (rows : List IndexRow) (first : Name) (old : Recording D) (i : ℕ) (names : List Name) (c : Name) (now : Recording D) : Type 0 where
  pub goes : (prog : Prog) (k : ChainValue → Prog) → IsAt prog old (chain_steps (length rows) rows [] first k) → IsAt prog now (chain_steps (length rows - i) rows names c k)

more_left : (n i : ℕ) → i < n → n - i ≡ suc (n - (i + 1))
more_left n i h = omega (arith, h)

none_left : (n i : ℕ) → n ≤ i → n - i ≡ 0
none_left n i h = omega (arith, h)

all_left : (n : ℕ) → n ≡ n - 0
all_left n = omega arith

module _ {D : Type 0} (rows : List IndexRow) (first : Name) (old : Recording D) where
  round : (names : List Name) (c : Name) (i : ℕ) → i < length rows → (k : ChainValue → Prog)
      → chain_steps (length rows - i) rows names c k ≡ climb_step rows names c (λ at. climb_on (chain_steps (length rows - (i + 1)) rows) at k)
  unfolding chain_steps
  round names c i h k = ap (λ n. chain_steps n rows names c k) (more_left (length rows) i h)

  last : (names : List Name) (c : Name) (i : ℕ) → length rows ≤ i → (k : ChainValue → Prog) → chain_steps (length rows - i) rows names c k ≡ k (chain names Top)
  unfolding chain_steps
  last names c i h k = ap (λ n. chain_steps n rows names c k) (none_left (length rows) i h)

  pub climb_start : (names : List Name) → names ≡ [] → ClimbAt rows first old 0 names first old
  climb_start names none = record {
    goes = λ prog k w. subst (λ (ns : List Name). IsAt prog old (chain_steps (length rows - 0) rows ns first k)) (sym none)
        (subst (λ (n : ℕ). IsAt prog old (chain_steps n rows [] first k)) (all_left (length rows)) w);
  }

  pub climb_more : (i : ℕ) (names more : List Name) (c next : Name) (mid new : Recording D) → ClimbAt rows first old i names c mid → Goes (climb_step rows names c) mid (more, At next) new → i < length rows
      → ClimbAt rows first old (i + 1) more next new
  climb_more i names more c next mid new l g h = record {
    goes = λ prog k w. g.goes prog (λ at. climb_on (chain_steps (length rows - (i + 1)) rows) at k) (subst (IsAt prog mid) (round names c i h k) (l.goes prog k w));
  }

  pub climb_over : (i : ℕ) (names more : List Name) (c : Name) (end : ChainEnd) (mid new : Recording D) → ClimbAt rows first old i names c mid → Goes (climb_step rows names c) mid (more, Over end) new → i < length rows
      → Goes (chain_steps (length rows) rows [] first) old (chain more end) new
  climb_over i names more c end mid new l g h = record {
    goes = λ prog k w. g.goes prog (λ at. climb_on (chain_steps (length rows - (i + 1)) rows) at k) (subst (IsAt prog mid) (round names c i h k) (l.goes prog k w));
  }

  pub climb_up : (i : ℕ) (names : List Name) (c : Name) (e : RunFault) (mid new : Recording D) → ClimbAt rows first old i names c mid → GivesUp (climb_step rows names c) mid e new → i < length rows
      → GivesUp (chain_steps (length rows) rows [] first) old e new
  climb_up i names c e mid new l g h = record {
    halts = λ prog k w. g.halts prog (λ at. climb_on (chain_steps (length rows - (i + 1)) rows) at k) (subst (IsAt prog mid) (round names c i h k) (l.goes prog k w));
  }

  pub climb_end : (i : ℕ) (names : List Name) (c : Name) (new : Recording D) → ClimbAt rows first old i names c new → length rows ≤ i → Goes (chain_steps (length rows) rows [] first) old (chain names Top) new
  climb_end i names c new l h = record { goes = λ prog k w. subst (IsAt prog new) (last names c i h k) (l.goes prog k w) }
