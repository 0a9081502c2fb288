use Rattle.std.proofs.Common.{string_bytes}
use Rattle.std.specs.Prelude.{codes}
use Rattle.commands.specs.ChainWords.{one_argument, three_arguments, two_arguments}
use Rattle.session_text.proofs.Added.{pushed}
use Rattle.commands.proofs.Added.{grouped}
use Rattle.commands.proofs.chain_refusals.add_chain_fault.Goals as goal

pub returns-in-BrokenLink-clause-added : goal.returns-in-BrokenLink-clause-added
returns-in-BrokenLink-clause-added c = rw c.in-BrokenLink.is (grouped c.add_one.result _ (string_bytes c.args.text.now) (codes "14.3 BrokenLink") (one_argument c.in-BrokenLink.k) c.add_one.ensures)

pub returns-in-NoFiles-clause-added : goal.returns-in-NoFiles-clause-added
returns-in-NoFiles-clause-added c = rw c.in-NoFiles.is (grouped c.add_one-in-NoFiles.result _ (string_bytes c.args.text.now) (codes "14.4 NoFiles") (one_argument c.in-NoFiles.k) c.add_one-in-NoFiles.ensures)

pub returns-in-MissingSource-clause-added : goal.returns-in-MissingSource-clause-added
returns-in-MissingSource-clause-added c = rw c.in-MissingSource.is (grouped c.add_two.result _ (string_bytes c.args.text.now) (codes "14.5 MissingSource") (two_arguments c.in-MissingSource.k c.in-MissingSource.f) c.add_two.ensures)

pub returns-in-GreenWithoutPast-clause-added : goal.returns-in-GreenWithoutPast-clause-added
returns-in-GreenWithoutPast-clause-added c = rw c.in-GreenWithoutPast.is (grouped c.add_two-in-GreenWithoutPast.result _ (string_bytes c.args.text.now) (codes "14.7 GreenWithoutPast") (two_arguments c.in-GreenWithoutPast.k c.in-GreenWithoutPast.n) c.add_two-in-GreenWithoutPast.ensures)

pub returns-in-GreenAcrossProfiles-clause-added : goal.returns-in-GreenAcrossProfiles-clause-added
returns-in-GreenAcrossProfiles-clause-added c = rw c.in-GreenAcrossProfiles.is (grouped c.add_two-in-GreenAcrossProfiles.result _ (string_bytes c.args.text.now) (codes "14.17 GreenAcrossProfiles") (two_arguments c.in-GreenAcrossProfiles.k c.in-GreenAcrossProfiles.n) c.add_two-in-GreenAcrossProfiles.ensures)

pub returns-in-OtherEdges-clause-added : goal.returns-in-OtherEdges-clause-added
returns-in-OtherEdges-clause-added c = rw c.in-OtherEdges.is (grouped c.add_two-in-OtherEdges.result _ (string_bytes c.args.text.now) (codes "14.8 OtherEdges") (two_arguments c.in-OtherEdges.k c.in-OtherEdges.n) c.add_two-in-OtherEdges.ensures)

pub returns-in-GreenOverRed-clause-added : goal.returns-in-GreenOverRed-clause-added
returns-in-GreenOverRed-clause-added c = rw c.in-GreenOverRed.is (grouped c.add_three.result _ (string_bytes c.args.text.now) (codes "14.9 GreenOverRed") (three_arguments c.in-GreenOverRed.k c.in-GreenOverRed.n c.in-GreenOverRed.i) c.add_three.ensures)

pub returns-in-GreenPrint-clause-added : goal.returns-in-GreenPrint-clause-added
returns-in-GreenPrint-clause-added c = rw c.in-GreenPrint.is (grouped c.add_two-in-GreenPrint.result _ (string_bytes c.args.text.now) (codes "14.10 GreenPrint") (two_arguments c.in-GreenPrint.k c.in-GreenPrint.n) c.add_two-in-GreenPrint.ensures)

pub returns-in-OtherRead-clause-added : goal.returns-in-OtherRead-clause-added
returns-in-OtherRead-clause-added c = rw c.in-OtherRead.is (grouped c.add_three-in-OtherRead.result _ (string_bytes c.args.text.now) (codes "14.11 OtherRead") (three_arguments c.in-OtherRead.k c.in-OtherRead.n c.in-OtherRead.i) c.add_three-in-OtherRead.ensures)

pub returns-in-UnreadEdges-clause-added : goal.returns-in-UnreadEdges-clause-added
returns-in-UnreadEdges-clause-added c = rw c.in-UnreadEdges.is (grouped c.add_two-in-UnreadEdges.result _ (string_bytes c.args.text.now) (codes "14.12 UnreadEdges") (two_arguments c.in-UnreadEdges.k c.in-UnreadEdges.n) c.add_two-in-UnreadEdges.ensures)

pub returns-in-OtherResult-clause-added : goal.returns-in-OtherResult-clause-added
returns-in-OtherResult-clause-added c = rw c.in-OtherResult.is (grouped c.add_two-in-OtherResult.result _ (string_bytes c.args.text.now) (codes "14.13 OtherResult") (two_arguments c.in-OtherResult.k c.in-OtherResult.n) c.add_two-in-OtherResult.ensures)

pub returns-in-NoAnswer-clause-added : goal.returns-in-NoAnswer-clause-added
returns-in-NoAnswer-clause-added c = rw c.in-NoAnswer.is (pushed c.push_str-in-NoAnswer.result _ (string_bytes c.args.text.now) (codes "14.14 NoAnswer") c.push_str-in-NoAnswer.ensures.bytes)

pub returns-in-SourcesDiffer-clause-added : goal.returns-in-SourcesDiffer-clause-added
returns-in-SourcesDiffer-clause-added c = rw c.in-SourcesDiffer.is (pushed c.push_str-in-SourcesDiffer.result _ (string_bytes c.args.text.now) (codes "14.15 SourcesDiffer") c.push_str-in-SourcesDiffer.ensures.bytes)
