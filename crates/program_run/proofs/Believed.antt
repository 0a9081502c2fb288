-- What a check that printed its answer may be believed for.
use Rattle.std.proofs.Common.{◌≡◌, ◌∙◌, inl, inr, ℕ, true, false, List, Option, string_bytes, refl, sym, ap, subst}
use Rattle.std.specs.Prelude.{codes}
use Rattle.std.specs.Io.KnownBytes.{Appends}
use Rattle.std.specs.Str.{bytes_eq}
use Rattle.std.proofs.lemmas.Option.{same_Some}
use Rattle.command_line.specs.CommandLine.{AsksFor, Asks}
use Rattle.command_line.specs.Subcommands.{word_for}
use Rattle.command_line.specs.declared.asked.CheckWords.{CheckWords}
use Rattle.command_line.specs.declared.asked.Subcommand.{Subcommand}
use Rattle.command_line.specs.declared.asked.Subcommand.TheVariants.{Scratch, Check, Audit, Show, Why, Explain}
use Rattle.command_line.specs.declared.asked.Words.{Words}
use Rattle.command_line.specs.declared.asked.Words.TheVariants as words
use Rattle.program_run.specs.Believed.{ChecksByRules, PrintsBelieved}
use Rattle.program_run.specs.Checks.{ChecksAsked}
use Rattle.program_run.specs.Runs.{IsWritten, Prints, Reports}
use Rattle.program_run.specs.declared.report.Report.{Report}

module _ {File : Type 0} (held : File → Option (List ℕ)) where
  by_rules : (asked : CheckWords) (report : Report) (a b c d : Option (List ℕ)) → ChecksAsked held asked report → IsWritten report a b c d → ChecksByRules held asked a b
  by_rules asked report a b c d is written =
      let told = is.checks.tells.tells in
      record {
        terms = is.terms;
        profile = is.profile;
        files = is.checks.files;
        named = is.checks.named;
        read = is.checks.read;
        beginning = is.checks.beginning;
        begins = is.checks.begins;
        past_read = is.checks.past_read;
        made = is.checks.session;
        over = is.checks.next;
        answer = told.answer;
        recorded = told.recorded;
        written = subst (λ (text : List ℕ). Appends a b text) (ap (λ (r : Report). string_bytes r.answer) is.checks.tells.report_is ∙ told.text) written.answer;
        by_rules = λ stands. (is.checks.next.by_rules stands).rules told.answer told.recorded;
      }

true_false : true ≡ false → ⊥
true_false e = cc

-- arguments that ask for a check ask for no subcommand of another name
not_check : (given : List (List ℕ)) (other : Subcommand) → AsksFor given Check → AsksFor given other → bytes_eq (codes "check") (word_for other) ≡ false → ⊥
not_check given other check asks differs =
    let same : word_for Check ≡ word_for other = same_Some (word_for Check) (word_for other) (sym check ∙ asks) in
    true_false (ap (λ name. bytes_eq (codes "check") name) same ∙ differs)

module _ {File : Type 0} (held : File → Option (List ℕ)) where
  asked_for : (given : List (List ℕ)) (told : List ℕ) (report : Report) (a b c d : Option (List ℕ)) (asked : Words) → AsksFor given Check → Asks given asked
      → Reports held asked told report → IsWritten report a b c d → PrintsBelieved held given a b
  asked_for given told report a b c d (words.Check asked) check asks reports written =
      inl (record { asked = asked; asks = asks; checks = by_rules held asked report a b c d reports.1 written })
  asked_for given told report a b c d (words.Scratch asked) check asks reports written = absurd (not_check given Scratch check asks.subcommand refl)
  asked_for given told report a b c d (words.Audit asked) check asks reports written = absurd (not_check given Audit check asks.subcommand refl)
  asked_for given told report a b c d (words.Show asked) check asks reports written = absurd (not_check given Show check asks.subcommand refl)
  asked_for given told report a b c d (words.Why asked) check asks reports written = absurd (not_check given Why check asks.subcommand refl)
  asked_for given told report a b c d (words.Explain asked) check asks reports written = absurd (not_check given Explain check asks.subcommand refl)

  pub believed : (given : List (List ℕ)) (number : ℕ) (a b c d : Option (List ℕ)) → AsksFor given Check → Prints held given number a b c d → PrintsBelieved held given a b
  believed given number a b c d check prints = elim prints.reports [
    | inl reports ↦ asked_for given reports.told prints.report a b prints.between d reports.asked check reports.asks reports.reports prints.written
    | inr help ↦ inr (record { report = prints.report; before = c; after = prints.between; help = help; written = prints.written.answer })
  ]
