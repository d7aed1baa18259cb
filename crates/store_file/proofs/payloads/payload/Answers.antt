use Rattle.std.proofs.Common.{List, ℕ, ◌++◌, ap, ◌∙◌}
use Rattle.store_file.specs.Payloads.{call_in, payload_of}
use Rattle.store_file.proofs.ReadBack.{read_back}
use Rattle.store_file.proofs.payloads.payload.Goals as goal

pub returns-clause-read : goal.returns-clause-read
returns-clause-read c change =
    ap call_in (c.in_ok-put_call.ensures.written ∙ ap (λ (l : List ℕ). l ++ payload_of c.args.call.now) c.new-out.ensures.items)
    ∙ read_back c.args.call.now change c.in_ok-put_call.ensures.fits
