-- What is kept of histories stays so with every message, fault, break, stop and drop.
use Rattle.std.proofs.Common.{◌∷◌}
use Rattle.vf_filestore.specs.Keeping.{AreHistoriesKept, IsKeptEntry}
use Rattle.vf_filestore.proofs.HistoriesStay.{broken_each, granted_each, heard_each}
use Rattle.vf_filestore.proofs.KeptEntries.{entry_kept}
use Rattle.vf_filestore.proofs.KeptMoves.{kept_lasts}
use Rattle.vf_filestore.proofs.Preserved.{IsAny, Stays, any}

pub histories_stay : Stays IsAny AreHistoriesKept
histories_stay = record {
  breaks = broken_each IsKeptEntry kept_lasts;
  hears = λ state link party message allowed kept found. heard_each IsKeptEntry state link party (message ∷ party.trace) kept found;
  traces = λ state link party kept found. any party.trace;
  grants = λ state party setting message given trace before after sound kept sound_after is allowed traces granting due.
      granted_each IsKeptEntry kept_lasts state party setting message given trace before after sound kept is due.taken (entry_kept state party setting message given due);
}
