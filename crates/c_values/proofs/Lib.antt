mod Outlines
mod RuleRooms
mod Rules
mod Windows
