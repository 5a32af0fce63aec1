-- The checks name the first thing that is wrong.
use Rattle.std.proofs.Common.{◌≡◌, ℕ, List, Ok, Result, rules}
use Rattle.network.specs.declared.networks.Network.{Network}
use Rattle.refusals.specs.declared.Refusal.{Refusal}
use Rattle.refusals.specs.Checks.{Answers}
use Rattle.network.specs.NetworkSheet.{network_checked, network_of, pattern}
use Rattle.refusals.proofs.FirstWrong.{judges_too}
use Rattle.network.proofs.NetworkLaw.{network_law}
use Rattle.network.proofs.networks.Network.read.Goals as goal

abbrev Reads : List ℕ → Result Network Refusal → Type 0
Reads bytes r = Answers (network_checked bytes) (λ m. pattern m ≡ network_of bytes) r

pub returns-in_err-check : goal.returns-in_err-check
returns-in_err-check c =
    let a : Reads c.args.sheet.now c.from_residual.result = search rules in
    judges_too _ _ _ _ (network_law c.args.sheet.now) a

pub returns-in_err-read : goal.returns-in_err-read
returns-in_err-read c =
    let a : Reads c.args.sheet.now c.from_residual-in_err-read.result = search rules in
    judges_too _ _ _ _ (network_law c.args.sheet.now) a

pub returns : goal.returns
returns c =
    let a : Reads c.args.sheet.now (Ok c.in_ok-read.field-0) = search rules in
    judges_too _ _ _ (Ok _) (network_law c.args.sheet.now) a
