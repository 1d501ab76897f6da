-- Assumes nothing.
use Rattle.keylocker.proofs.Keyrings.{found, unfound_lem}
use Rattle.keylocker.proofs.keylocker_keyring_lookup.Goals as goal

pub returns-in-Ok : goal.returns-in-Ok
returns-in-Ok c =
    let a = c.args in
    found a.keyring.now a.label.now a.kind.now a.handle.now c.in-Ok.found c.in-Ok.ensures

pub returns-in-Err : goal.returns-in-Err
returns-in-Err c =
    let a = c.args in
    rw c.refused.ensures (unfound_lem a.keyring.now a.label.now a.kind.now a.handle.now c.in-Err.unfound c.in-Err.ensures)
