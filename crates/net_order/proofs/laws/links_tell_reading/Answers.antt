use Rattle.net_order.proofs.ReadTables.{known, link_reads, reading_links}
use Rattle.net_order.proofs.laws.links_tell_reading.Goals as goal

pub returns : goal.returns
returns c = record { links = link_reads; reading = reading_links; known = known }
