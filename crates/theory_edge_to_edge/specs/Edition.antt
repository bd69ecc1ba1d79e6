-- The editions of rules, which differ in the factors that they take.

-- the first takes real factors, and no rule of order six; the second takes factors that turn the plane, too
pub data Edition : Type 0 where
  First : Edition
  Second : Edition
