use Rattle.tm_wire.proofs.making.wire.Given as goal

abbrev pub ghosts-settled : goal.ghosts-settled
ghosts-settled g a = record { known = a.settings.now }
