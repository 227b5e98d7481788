use Rattle.headline_laws.proofs.Triplicated.{triplicated}
use Rattle.headline_laws.proofs.triplicated_goes_along.Goals as goal

pub returns : goal.returns
returns c = λ d e clean also formed well modelled too same triplicate.
    triplicated (record { sound = record { clean = clean; formed = formed }; also = record { clean = also; formed = well }; modelled = modelled; also_modelled = too; same = same }) triplicate
