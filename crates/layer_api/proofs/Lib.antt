mod Figures
mod Words
